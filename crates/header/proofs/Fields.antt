-- The fields of a text.
--     fields_over, fields_broken, fields_one    the equations of `fields`, with no count of lines
--     from_over, from_broken, from_field        the fields from a place on, by the answer r about what stands there
--     fields_fit, fields_long       where a block is readable
--     clear_fits .. clear_whole                 what follows where it is found to be
--     Legible s at                              the block is readable if it is from the place `at` on
--     read_begin .. read_next                   the steps of a loop over the fields
-- Assumes nothing.
use Prim.Native.Nat.{ℕ, zero, suc, ◌+◌, ◌-◌, ◌<◌, ◌≤◌}
use mathlib.Core.Path.{◌≡◌, refl, sym, ap, ◌∙◌}
use mathlib.Core.Logic.{◌⊎◌, ⊎_elim}
use mathlib.Core.Bool.{Bool, true, false, false≢true, true≢false}
use mathlib.Core.List.{List, [], ◌∷◌}
use Rattle.std.specs.Prelude.{Option, Some, None}
use native.Mathlib.Omega.{arith}
use native.Mathlib.Nat.{add_assoc}
use borrow.Author.Rules.{rules}
use borrow.Author.Tests.{le-leb, lt-leb}
use lib.ListN.{length, take, drop, length-drop}
use lib.Seq.{drop-drop}
use Rattle.octets.specs.Options.{in_front, is_some}
use Rattle.octets.proofs.Options.{some_front}
use Rattle.octets.proofs.Lists.{lt_or_le}
use Rattle.runs.specs.Runs.{run_length}
use Rattle.runs.specs.declared.Class.TheVariants.{Name}
use Rattle.header.specs.Header.{FieldText, limit, over, raw_length, opens_field, name_of, raw_of, rest_of, unfolded, fields_within, fields, fields_of}
use Rattle.header.specs.Answers.{fields_from, step_at, name_end, field_end, field_at}
use Rattle.header.specs.declared.Step.{Step}
use Rattle.header.specs.declared.Step.TheVariants.{Over, Broken, Field}
use Rattle.header.proofs.Stepping.{is_over, is_broken, is_field, field_less}

-- what follows a field is shorter than the text that the field opens
pub rest_short : (s : List ℕ) (k : ℕ) → length s ≤ suc k → length (rest_of s) ≤ k
rest_short s k h = simp length-drop (omega arith)

enough : (k m : ℕ) (s : List ℕ) → length s ≤ k → length s ≤ m → fields_within k s ≡ fields_within m s
unfolding fields_within over
enough zero zero s p q = refl
enough zero (suc m) [] p q = refl
enough zero (suc m) (x ∷ s) p q = absurd (omega arith)
enough (suc k) zero [] p q = refl
enough (suc k) zero (x ∷ s) p q = absurd (omega arith)
enough (suc k) (suc m) s p q = go (enough k m (rest_of s) (rest_short s k p) (rest_short s m q)) (over s) refl (opens_field s) refl
  where
    go : fields_within k (rest_of s) ≡ fields_within m (rest_of s) → (b : Bool) → over s ≡ b → (d : Bool) → opens_field s ≡ d
        → fields_within (suc k) s ≡ fields_within (suc m) s
    go ih true e d o = rw (fields_within, e)
    go ih false e false o = rw (fields_within, e, o)
    go ih false e true o = rw (fields_within, e, o, ih)

pub fields_over : (s : List ℕ) → over s ≡ true → fields s ≡ Some []
unfolding fields fields_within
fields_over [] e = refl
fields_over (x ∷ s) e = rw (fields_within, e)

pub fields_broken : (s : List ℕ) → over s ≡ false → opens_field s ≡ false → fields s ≡ None
unfolding fields fields_within over
fields_broken [] e o = absurd (true≢false e)
fields_broken (x ∷ s) e o = rw (fields_within, e, o)

pub fields_one : (s : List ℕ) → over s ≡ false → opens_field s ≡ true
    → fields s ≡ in_front (record { name = name_of s; value = unfolded (raw_of s) }) (fields (rest_of s))
unfolding fields fields_within over
fields_one [] e o = absurd (true≢false e)
fields_one (x ∷ s) e o =
    rw (fields_within, e, o)
    (ap (in_front (record { name = name_of (x ∷ s); value = unfolded (raw_of (x ∷ s)) }))
    (enough (length s) (length (rest_of (x ∷ s))) (rest_of (x ∷ s)) (rest_short (x ∷ s) (length s) (omega arith)) (omega arith)))

-- what an answer about the place `at` tells of the fields from there on
abbrev pub told : List ℕ → ℕ → Step → Option (List FieldText)
told s at Over = Some []
told s at Broken = None
told s at (Field n v e) = in_front (field_at s at n v e) (fields_from s e)

-- the field that opens what is left from a place on, by its places
module _ (s : List ℕ) (at : ℕ) where
  name_is : name_of (drop at s) ≡ take (name_end s at - at) (drop at s)
  name_is = let e : name_end s at - at ≡ run_length Name (drop at s) = omega arith in rw e

  behind : (n : ℕ) → drop (n + 1) (drop at s) ≡ drop ((at + n) + 1) s
  behind n = drop-drop (n + 1) at s ∙ rw add_assoc

  raw_is : raw_of (drop at s) ≡ take (field_end s (name_end s at + 1) - (name_end s at + 1)) (drop (name_end s at + 1) s)
  raw_is =
      let v : ℕ = name_end s at + 1 in
      let e : field_end s v - v ≡ raw_length (drop v s) = omega arith in
      rw (behind (run_length Name (drop at s)), e)

  rest_is : rest_of (drop at s) ≡ drop (field_end s (name_end s at + 1)) s
  rest_is = rw (behind (run_length Name (drop at s))) (drop-drop (raw_length (drop (name_end s at + 1) s)) (name_end s at + 1) s)

  pub fields_told : fields_from s at ≡ told s at (step_at s at)
  unfolding fields_from
  fields_told = go (over (drop at s)) refl (opens_field (drop at s)) refl
    where
      go : (b : Bool) → over (drop at s) ≡ b → (d : Bool) → opens_field (drop at s) ≡ d → fields (drop at s) ≡ told s at (step_at s at)
      go true e d o = rw (is_over s at e) (fields_over (drop at s) e)
      go false e false o = rw (is_broken s at e o) (fields_broken (drop at s) e o)
      go false e true o = rw (is_field s at e o) (fields_one (drop at s) e o ∙ rw (name_is, raw_is, rest_is))

module _ (s : List ℕ) (at : ℕ) (r : Step) (t : r ≡ step_at s at) where
  pub from_over : r ≡ Over → fields_from s at ≡ Some []
  from_over q = fields_told s at ∙ ap (told s at) (sym t ∙ q)

  pub from_broken : r ≡ Broken → fields_from s at ≡ None
  from_broken q = fields_told s at ∙ ap (told s at) (sym t ∙ q)

  pub from_field : (n v e : ℕ) → r ≡ Field n v e → fields_from s at ≡ in_front (field_at s at n v e) (fields_from s e)
  from_field n v e q = fields_told s at ∙ ap (told s at) (sym t ∙ q)

pub fields_fit : (s : List ℕ) → length s ≤ limit → fields_of s ≡ fields_from s 0
unfolding fields_of fields_from
fields_fit s h = rw (fields_of, le-leb (length s) limit h)

-- B5: a block of no octets is readable
pub fields_empty : fields_of [] ≡ Some []
unfolding fields_of fields fields_within
fields_empty = refl

pub fields_long : (s : List ℕ) → limit < length s → fields_of s ≡ None
unfolding fields_of
fields_long s h = rw (fields_of, lt-leb (length s) limit h)

-- what an answer b about a whole block tells of a loop over its fields: it is short enough, and no line is broken
module _ (s : List ℕ) (b : Bool) (t : b ≡ is_some (fields_of s)) where
  cases : (length s < suc limit) ⊎ (suc limit ≤ length s)
  cases = lt_or_le (length s) (suc limit)

  pub clear_fits : b ≡ true → length s ≤ limit
  unfolding is_some
  clear_fits q =
      ⊎_elim (λ (h : length s < suc limit). omega arith)
      (λ (h : suc limit ≤ length s). absurd (false≢true (sym (ap is_some (fields_long s h)) ∙ sym t ∙ q)))
      cases

  pub clear_begin : b ≡ true → is_some (fields_from s 0) ≡ true
  clear_begin q = sym (ap is_some (fields_fit s (clear_fits q))) ∙ sym t ∙ q

module _ (s : List ℕ) (at : ℕ) (r : Step) (c : is_some (fields_from s at) ≡ true) (t : r ≡ step_at s at) where
  pub clear_next : (n v e : ℕ) → r ≡ Field n v e → is_some (fields_from s e) ≡ true
  clear_next n v e q = sym (some_front (field_at s at n v e) (fields_from s e)) ∙ sym (ap is_some (from_field s at r t n v e q)) ∙ c

  pub clear_whole : r ≡ Broken → ⊥
  unfolding is_some
  clear_whole q = false≢true (sym (ap is_some (from_broken s at r t q)) ∙ c)

pub record Legible (s : List ℕ) (at : ℕ) : Type 0 where
  pub same : is_some (fields_of s) ≡ is_some (fields_from s at)

pub read_long : (s : List ℕ) → limit < length s → false ≡ is_some (fields_of s)
unfolding is_some
read_long s h = sym (ap is_some (fields_long s h))

pub read_begin : (s : List ℕ) → length s ≤ limit → Legible s 0
read_begin s h = record { same = ap is_some (fields_fit s h) }

module _ (s : List ℕ) (at : ℕ) (r : Step) (h : Legible s at) (t : r ≡ step_at s at) where
  pub read_over : r ≡ Over → true ≡ is_some (fields_of s)
  unfolding is_some
  read_over q = sym (h.same ∙ ap is_some (from_over s at r t q))

  pub read_broken : r ≡ Broken → false ≡ is_some (fields_of s)
  unfolding is_some
  read_broken q = sym (h.same ∙ ap is_some (from_broken s at r t q))

  pub read_next : (n v e : ℕ) → r ≡ Field n v e → Legible s e
  read_next n v e q = record { same = h.same ∙ ap is_some (from_field s at r t n v e q) ∙ some_front (field_at s at n v e) (fields_from s e) }

pub ruleset reading = (read_long, read_begin, read_over, read_broken, read_next, field_less, rules)
