-- What stands at a place where a line begins.
--     step_over, step_nameless, step_bare, step_field    the answer by the tests in their order
--     colon_fits           a colon stands below the end, so that there is a place behind it
--     Places s at n v e    how the places of a field lie
--     Held, held           they lie so in each answer
--     name_from .. field_less    what a caller asks of an answer r: of the name that it lends on, and of a loop's measure
-- Assumes nothing.
use Prim.Native.Nat.{ℕ, ◌+◌, ◌-◌, ◌^◌, ◌<◌, ◌≤◌}
use mathlib.Core.Path.{◌≡◌, refl, sym, ◌∙◌, subst}
use mathlib.Core.Logic.{⊎_elim}
use mathlib.Core.Bool.{Bool, true, false}
use mathlib.Core.List.{List}
use native.Mathlib.Omega.{arith}
use borrow.Author.Rules.{rules}
use borrow.Author.Tests.{lt-ltb, le-ltb, ltb-true, eq-eqb, ne_eqb, eqb-true}
use lib.Dec.{ltb, eqb}
use lib.ListN.{length, get_or, drop, get_or-eq_default}
use lib.Seq.{get_or-drop}
use Rattle.octets.specs.Octets.{octet}
use Rattle.octets.proofs.Lists.{lt_or_le}
use Rattle.octets.proofs.Tests.{and_left, and_right}
use Rattle.runs.specs.Runs.{run_length}
use Rattle.runs.specs.declared.Class.TheVariants.{Name}
use Rattle.header.specs.Header.{over, raw_length, opens_field}
use Rattle.header.specs.Answers.{name_end, field_end, step_at}
use Rattle.header.specs.declared.Step.{Step}
use Rattle.header.specs.declared.Step.TheVariants.{Over, Broken, Field}
use Rattle.header.proofs.Counting.{raw_upto}

-- a colon stands below the end
below_end : (s : List ℕ) (i : ℕ) → get_or s i 0 ≡ octet ":" → i < length s
below_end s i e =
    ⊎_elim (λ (h : i < length s). h)
    (λ (h : length s ≤ i). absurd (let z : 0 ≡ octet ":" = sym (get_or-eq_default s 0 {n = i} h) ∙ e in omega arith))
    (lt_or_le i (length s))

module _ (s : List ℕ) (at : ℕ) where
  -- the three answers
  pub is_over : over (drop at s) ≡ true → step_at s at ≡ Over
  unfolding step_at
  is_over e = rw (step_at, e)

  pub is_broken : over (drop at s) ≡ false → opens_field (drop at s) ≡ false → step_at s at ≡ Broken
  unfolding step_at
  is_broken e o = rw (step_at, e, o)

  pub is_field : over (drop at s) ≡ false → opens_field (drop at s) ≡ true → step_at s at ≡ Field (name_end s at) (name_end s at + 1) (field_end s (name_end s at + 1))
  unfolding step_at
  is_field e o = rw (step_at, e, o)

  -- a field opens where a name is not empty and a colon stands behind it
  nameless : name_end s at ≡ at → opens_field (drop at s) ≡ false
  unfolding opens_field
  nameless e = rw (opens_field, le-ltb 0 (run_length Name (drop at s)) (omega arith))

  named : (name_end s at ≡ at → ⊥) → opens_field (drop at s) ≡ eqb (get_or s (name_end s at) 0) (octet ":")
  unfolding opens_field
  named n = rw (opens_field, lt-ltb 0 (run_length Name (drop at s)) (omega arith), get_or-drop at s (run_length Name (drop at s)) 0)

module _ (s : List ℕ) (at : ℕ) (b : Bool) (t : b ≡ over (drop at s)) where
  pub step_over : b ≡ true → Over ≡ step_at s at
  step_over e = sym (is_over s at (sym t ∙ e))

  module _ (n : ℕ) (f : b ≡ false) (q : n ≡ at + run_length Name (drop at s)) where
    pub step_nameless : n ≡ at → Broken ≡ step_at s at
    step_nameless e = sym (is_broken s at (sym t ∙ f) (nameless s at (sym q ∙ e)))

    module _ (p : ℕ) (m : n ≡ at → ⊥) (w : p ≡ get_or s n 0) where
      pub step_bare : (p ≡ octet ":" → ⊥) → Broken ≡ step_at s at
      step_bare c =
          let o : opens_field (drop at s) ≡ false = named s at (λ y. m (q ∙ y)) ∙ ne_eqb (get_or s (name_end s at) 0) (octet ":") (λ e. c (w ∙ rw q e)) in
          sym (is_broken s at (sym t ∙ f) o)

      pub step_field : (e : ℕ) → p ≡ octet ":" → e ≡ (n + 1) + raw_length (drop (n + 1) s) → Field n (n + 1) e ≡ step_at s at
      step_field e c z =
          let o : opens_field (drop at s) ≡ true = named s at (λ y. m (q ∙ y)) ∙ eq-eqb (get_or s (name_end s at) 0) (octet ":") (rw (← q) (sym w ∙ c)) in
          rw (z, q) (sym (is_field s at (sym t ∙ f) o))

pub colon_fits : (s : List ℕ) (n p : ℕ) → length s < 2 ^ 64 → p ≡ get_or s n 0 → p ≡ octet ":" → n + 1 < 2 ^ 64
colon_fits s n p l w c = omega (arith, below_end s n (sym w ∙ c))

pub ruleset stepping = (step_over, step_nameless, step_bare, step_field, colon_fits, rules)

pub record Places (s : List ℕ) (at n v e : ℕ) : Type 0 where
  pub named : at < n
  pub colon : v ≡ n + 1
  pub behind : v ≤ e
  pub upto : e ≤ length s

abbrev pub Held : List ℕ → ℕ → Step → Type 0
Held s at Over = Unit
Held s at Broken = Unit
Held s at (Field n v e) = Places s at n v e

opened : (s : List ℕ) (at : ℕ) → opens_field (drop at s) ≡ true → (at < name_end s at) × (name_end s at < length s)
unfolding opens_field
opened s at o =
    let n : ℕ = run_length Name (drop at s) in
    let b : Bool = eqb (get_or (drop at s) n 0) (octet ":") in
    let c : get_or s (name_end s at) 0 ≡ octet ":" = sym (get_or-drop at s n 0) ∙ eqb-true (get_or (drop at s) n 0) (octet ":") (and_right (ltb 0 n) b o) in
    (omega (arith, ltb-true 0 n (and_left (ltb 0 n) b o)), below_end s (name_end s at) c)

pub held : (s : List ℕ) (at : ℕ) → Held s at (step_at s at)
held s at = go (over (drop at s)) refl (opens_field (drop at s)) refl
  where
    go : (b : Bool) → over (drop at s) ≡ b → (d : Bool) → opens_field (drop at s) ≡ d → Held s at (step_at s at)
    go true e d o = rw (is_over s at e) tt
    go false e false o = rw (is_broken s at e o) tt
    go false e true o =
        let p : (at < name_end s at) × (name_end s at < length s) = opened s at o in
        rw (is_field s at e o)
        (record { named = p.0; colon = refl; behind = omega arith; upto = raw_upto s (name_end s at + 1) (omega arith) })

-- as a caller asks it of an answer r
module _ (s : List ℕ) (at n v e : ℕ) (r : Step) (t : r ≡ step_at s at) (q : r ≡ Field n v e) where
  pub field_places : Places s at n v e
  field_places = subst (λ (x : Step). Held s at x) (sym t ∙ q) (held s at)

  pub name_from : at ≤ n
  name_from = omega (arith, field_places)

  pub name_upto : n ≤ length s
  name_upto = omega (arith, field_places)

  pub field_less : length s - e < length s - at
  field_less = omega (arith, field_places)
