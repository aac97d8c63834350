-- B15: whether lines end with LF or with CRLF makes no difference to the fields.
--     unfolded_kept   nor to a value without them
--     line_endings    the fields of a text with LF alone are those of the text with CRLF
-- Assumes nothing.
use Prim.Native.Nat.{ℕ, zero, suc, ◌+◌, ◌≤◌}
use mathlib.Core.Path.{◌≡◌, refl, sym, ap, ◌∙◌}
use mathlib.Core.Bool.{Bool, true, false, not, false≢true}
use mathlib.Core.List.{List, [], ◌∷◌, ◌++◌}
use native.Mathlib.Omega.{arith}
use borrow.Author.Tests.{eqb-true, eqb-false}
use lib.Dec.{ltb, eqb}
use lib.ListN.{length, get_or, take, drop}
use lib.Seq.{take_at, drop_at, drop-drop, length-take-le}
use Rattle.octets.specs.Octets.{octet, cr, lf, blank}
use Rattle.octets.proofs.Tests.{and_right}
use Rattle.runs.specs.Runs.{belongs, run_length, run}
use Rattle.runs.specs.declared.Class.TheVariants.{Name, Blank}
use Rattle.runs.proofs.Running.{run_in, run_out, run_short}
use Rattle.header.specs.Header.{of_ending, over, closes, raw_length, opens_field, name_of, after_colon, raw_of, rest_of, unfolded, fields}
use Rattle.header.specs.Blocks.{with_cr_lf, LfAlone}
use Rattle.header.proofs.Telling.{next_octet, ends_lf, closes_other}
use Rattle.header.proofs.Counting.{raw_on, raw_last}
use Rattle.header.proofs.Unfolding.{plain_octet, unfolded_out, unfolded_in, unfolded_crlf}
use Rattle.header.proofs.Fields.{fields_over, fields_broken, fields_one, rest_short}

alone_drop : (n : ℕ) (s : List ℕ) → LfAlone s → LfAlone (drop n s)
alone_drop zero s h = h
alone_drop (suc n) [] h = h
alone_drop (suc n) (x ∷ s) h = alone_drop n s (λ i. h (suc i))

-- the first octet of a part is that of the whole, or none
first_of : (n : ℕ) (s : List ℕ) → get_or (take n s) 0 0 ≡ lf → get_or s 0 0 ≡ lf
first_of zero s e = absurd (omega arith)
first_of (suc n) [] e = e
first_of (suc n) (x ∷ s) e = e

alone_take : (n : ℕ) (s : List ℕ) → LfAlone s → LfAlone (take n s)
alone_take zero s h i c e = absurd (omega arith)
alone_take (suc n) [] h i c e = h i c e
alone_take (suc n) (x ∷ s) h zero c e = h 0 c (first_of n s e)
alone_take (suc n) (x ∷ s) h (suc i) c e = alone_take n s (λ j. h (suc j)) i c e

module _ (x : ℕ) (s : List ℕ) where
  with_lf : eqb x lf ≡ true → with_cr_lf (x ∷ s) ≡ cr ∷ lf ∷ with_cr_lf s
  unfolding with_cr_lf
  with_lf e = rw (with_cr_lf, e)

  with_other : eqb x lf ≡ false → with_cr_lf (x ∷ s) ≡ x ∷ with_cr_lf s
  unfolding with_cr_lf
  with_other e = rw (with_cr_lf, e)

-- a test that makes no difference between CR and LF finds the same at the beginning
first_alike : (f : ℕ → Bool) → f cr ≡ f lf → (s : List ℕ) → f (get_or (with_cr_lf s) 0 0) ≡ f (get_or s 0 0)
unfolding with_cr_lf
first_alike f h [] = refl
first_alike f h (x ∷ s) = go (eqb x lf) refl
  where
    go : (b : Bool) → eqb x lf ≡ b → f (get_or (with_cr_lf (x ∷ s)) 0 0) ≡ f x
    go true e = rw (with_lf x s e) (h ∙ ap f (sym (eqb-true x lf e)))
    go false e = rw (with_other x s e)

-- no LF stands at the beginning
first_no_lf : (s : List ℕ) → get_or (with_cr_lf s) 0 0 ≡ lf → ⊥
unfolding with_cr_lf
first_no_lf [] q = omega arith
first_no_lf (x ∷ s) q = go (eqb x lf) refl
  where
    go : (b : Bool) → eqb x lf ≡ b → ⊥
    go true e = let z : cr ≡ lf = rw (with_lf x s e) at q in omega arith
    go false e = let z : x ≡ lf = rw (with_other x s e) at q in eqb-false x lf e z

-- an octet but LF is of no line ending on either side
module _ (x : ℕ) (s : List ℕ) (h : LfAlone (x ∷ s)) (e : eqb x lf ≡ false) where
  plain_here : of_ending x (get_or s 0 0) ≡ false
  plain_here = plain_octet x (get_or s 0 0) (eqb-false x lf e) (h 0)

  plain_there : of_ending x (get_or (with_cr_lf s) 0 0) ≡ false
  plain_there = plain_octet x (get_or (with_cr_lf s) 0 0) (eqb-false x lf e) (λ _. first_no_lf s)

over_kept : (s : List ℕ) → LfAlone s → over (with_cr_lf s) ≡ over s
unfolding over with_cr_lf of_ending
over_kept [] h = refl
over_kept (x ∷ s) h = go (eqb x lf) refl
  where
    go : (b : Bool) → eqb x lf ≡ b → over (with_cr_lf (x ∷ s)) ≡ of_ending x (get_or s 0 0)
    go true e = rw (with_lf x s e) (ends_lf x (get_or s 0 0) (eqb-true x lf e))
    go false e = rw (with_other x s e) (plain_there x s h e ∙ sym (plain_here x s h e))

run_kept : (s : List ℕ) → run_length Name (with_cr_lf s) ≡ run_length Name s
unfolding with_cr_lf belongs
run_kept [] = refl
run_kept (x ∷ s) = go (run_kept s) (eqb x lf) refl (belongs Name x) refl
  where
    go : run_length Name (with_cr_lf s) ≡ run_length Name s → (b : Bool) → eqb x lf ≡ b → (d : Bool) → belongs Name x ≡ d
        → run_length Name (with_cr_lf (x ∷ s)) ≡ run_length Name (x ∷ s)
    go ih true e d m = rw (with_lf x s e, eqb-true x lf e) (run_out (belongs Name) cr (lf ∷ with_cr_lf s) refl ∙ sym (run_out (belongs Name) lf s refl))
    go ih false e true m = rw (with_other x s e) (run_in (belongs Name) x (with_cr_lf s) m ∙ ap suc ih ∙ sym (run_in (belongs Name) x s m))
    go ih false e false m = rw (with_other x s e) (run_out (belongs Name) x (with_cr_lf s) m ∙ sym (run_out (belongs Name) x s m))

-- a name stays as it is
name_stays : (s : List ℕ) → with_cr_lf s ≡ name_of s ++ with_cr_lf (drop (run_length Name s) s)
unfolding with_cr_lf run belongs
name_stays [] = refl
name_stays (x ∷ s) = go (name_stays s) (belongs Name x) refl (eqb x lf) refl
  where
    go : with_cr_lf s ≡ name_of s ++ with_cr_lf (drop (run_length Name s) s) → (d : Bool) → belongs Name x ≡ d → (b : Bool) → eqb x lf ≡ b
        → with_cr_lf (x ∷ s) ≡ name_of (x ∷ s) ++ with_cr_lf (drop (run_length Name (x ∷ s)) (x ∷ s))
    go ih false m b e = rw (run_out (belongs Name) x s m)
    go ih true m true e = absurd (let z : belongs Name lf ≡ true = rw (eqb-true x lf e) at m in false≢true z)
    go ih true m false e = rw (run_in (belongs Name) x s m, with_other x s e) (ap (λ (l : List ℕ). x ∷ l) ih)

module _ (s : List ℕ) where
  long : length (name_of s) ≡ run_length Name s
  long = length-take-le (run_length Name s) s (run_short (belongs Name) s)

  name_kept : name_of (with_cr_lf s) ≡ name_of s
  name_kept = rw (run_kept s, name_stays s) (take_at (name_of s) (with_cr_lf (drop (run_length Name s) s)) (run_length Name s) long)

  behind_kept : drop (run_length Name s) (with_cr_lf s) ≡ with_cr_lf (drop (run_length Name s) s)
  behind_kept = rw (name_stays s) (drop_at (name_of s) (with_cr_lf (drop (run_length Name s) s)) (run_length Name s) long)

  colon_kept : eqb (get_or (with_cr_lf s) (run_length Name s) 0) (octet ":") ≡ eqb (get_or s (run_length Name s) 0) (octet ":")
  colon_kept =
      ap (λ (x : ℕ). eqb x (octet ":")) (sym (next_octet (with_cr_lf s) (run_length Name s)) ∙ ap (λ (l : List ℕ). get_or l 0 0) behind_kept)
      ∙ first_alike (λ (x : ℕ). eqb x (octet ":")) refl (drop (run_length Name s) s)
      ∙ ap (λ (x : ℕ). eqb x (octet ":")) (next_octet s (run_length Name s))

  opens_kept : opens_field (with_cr_lf s) ≡ opens_field s
  unfolding opens_field
  opens_kept = rw (opens_field, run_kept s, colon_kept)

-- a text that opens with another octet than LF, without that octet
one_off : (t : List ℕ) → get_or t 0 0 ≡ octet ":" → drop 1 (with_cr_lf t) ≡ with_cr_lf (drop 1 t)
unfolding with_cr_lf
one_off [] e = refl
one_off (x ∷ t) e = rw (e, with_cr_lf)

after_kept : (s : List ℕ) → opens_field s ≡ true → after_colon (with_cr_lf s) ≡ with_cr_lf (after_colon s)
unfolding opens_field
after_kept s o =
    let n : ℕ = run_length Name s in
    let c : get_or (drop n s) 0 0 ≡ octet ":" = next_octet s n ∙ eqb-true (get_or s n 0) (octet ":") (and_right (ltb 0 n) (eqb (get_or s n 0) (octet ":")) o) in
    rw (run_kept s) (sym (drop-drop 1 n (with_cr_lf s)) ∙ ap (drop 1) (behind_kept s) ∙ one_off (drop n s) c ∙ ap with_cr_lf (drop-drop 1 n s))

-- a value as it stands, and what follows it
record Cut (t : List ℕ) : Type 0 where
  raw : take (raw_length (with_cr_lf t)) (with_cr_lf t) ≡ with_cr_lf (take (raw_length t) t)
  rest : drop (raw_length (with_cr_lf t)) (with_cr_lf t) ≡ with_cr_lf (drop (raw_length t) t)

closes_kept : (x : ℕ) (s : List ℕ) → eqb x lf ≡ true → closes lf (get_or (with_cr_lf s) 0 0) ≡ closes x (get_or s 0 0)
unfolding closes belongs blank
closes_kept x s e = rw (eqb-true x lf e) (ap not (first_alike (belongs Blank) refl s))

cut_none : Cut []
unfolding with_cr_lf raw_length
cut_none = record { raw = refl; rest = refl }

cut : (t : List ℕ) → Cut t
unfolding closes with_cr_lf
cut [] = cut_none
cut (x ∷ s) = go (cut s) (eqb x lf) refl (closes x (get_or s 0 0)) refl
  where
    go : Cut s → (b : Bool) → eqb x lf ≡ b → (d : Bool) → closes x (get_or s 0 0) ≡ d → Cut (x ∷ s)
    go ih true e true k =
        let n : raw_length (with_cr_lf (x ∷ s)) ≡ 2 = rw (with_lf x s e) (raw_on cr (lf ∷ with_cr_lf s) refl ∙ ap suc (raw_last lf (with_cr_lf s) (closes_kept x s e ∙ k))) in
        record { raw = rw (n, raw_last x s k, with_lf x s e, with_lf x [] e); rest = rw (n, raw_last x s k, with_lf x s e) }
    go ih true e false k =
        let n : raw_length (with_cr_lf (x ∷ s)) ≡ suc (suc (raw_length (with_cr_lf s))) =
        rw (with_lf x s e) (raw_on cr (lf ∷ with_cr_lf s) refl ∙ ap suc (raw_on lf (with_cr_lf s) (closes_kept x s e ∙ k))) in
        record {
          raw = rw (n, raw_on x s k, with_lf x s e, with_lf x (take (raw_length s) s) e) (ap (λ (l : List ℕ). cr ∷ lf ∷ l) ih.raw);
          rest = rw (n, raw_on x s k, with_lf x s e) ih.rest;
        }
    go ih false e d k =
        let m : closes x (get_or s 0 0) ≡ false = sym (closes_other x (get_or s 0 0) (eqb-false x lf e)) in
        let n : raw_length (with_cr_lf (x ∷ s)) ≡ suc (raw_length (with_cr_lf s)) =
        rw (with_other x s e) (raw_on x (with_cr_lf s) (sym (closes_other x (get_or (with_cr_lf s) 0 0) (eqb-false x lf e)))) in
        record {
          raw = rw (n, raw_on x s m, with_other x s e, with_other x (take (raw_length s) s) e) (ap (λ (l : List ℕ). x ∷ l) ih.raw);
          rest = rw (n, raw_on x s m, with_other x s e) ih.rest;
        }

pub unfolded_kept : (s : List ℕ) → LfAlone s → unfolded (with_cr_lf s) ≡ unfolded s
unfolding with_cr_lf
unfolded_kept [] h = refl
unfolded_kept (x ∷ s) h = go (unfolded_kept s (λ i. h (suc i))) (eqb x lf) refl
  where
    go : unfolded (with_cr_lf s) ≡ unfolded s → (b : Bool) → eqb x lf ≡ b → unfolded (with_cr_lf (x ∷ s)) ≡ unfolded (x ∷ s)
    go ih true e =
        rw (with_lf x s e) (unfolded_crlf (with_cr_lf s) ∙ ih ∙ sym (unfolded_out x s (sym (ends_lf x (get_or s 0 0) (eqb-true x lf e)))))
    go ih false e =
        rw (with_other x s e)
        (unfolded_in x (with_cr_lf s) (plain_there x s h e) ∙ ap (λ (l : List ℕ). x ∷ l) ih ∙ sym (unfolded_in x s (plain_here x s h e)))

within : (k : ℕ) (s : List ℕ) → length s ≤ k → LfAlone s → fields (with_cr_lf s) ≡ fields s
unfolding with_cr_lf
within zero [] l h = refl
within zero (x ∷ s) l h = absurd (omega arith)
within (suc k) s l h = go (within k (rest_of s) (rest_short s k l) alone_rest) (over s) refl (opens_field s) refl
  where
    alone_after : LfAlone (after_colon s)
    alone_after = alone_drop (run_length Name s + 1) s h

    alone_rest : LfAlone (rest_of s)
    alone_rest = alone_drop (raw_length (after_colon s)) (after_colon s) alone_after

    value_kept : opens_field s ≡ true → unfolded (raw_of (with_cr_lf s)) ≡ unfolded (raw_of s)
    value_kept o =
        rw (after_kept s o, (cut (after_colon s)).raw)
        (unfolded_kept (raw_of s) (alone_take (raw_length (after_colon s)) (after_colon s) alone_after))

    rest_kept : opens_field s ≡ true → rest_of (with_cr_lf s) ≡ with_cr_lf (rest_of s)
    rest_kept o = rw (after_kept s o) (cut (after_colon s)).rest

    go : fields (with_cr_lf (rest_of s)) ≡ fields (rest_of s) → (b : Bool) → over s ≡ b → (d : Bool) → opens_field s ≡ d → fields (with_cr_lf s) ≡ fields s
    go ih true e d o = fields_over (with_cr_lf s) (over_kept s h ∙ e) ∙ sym (fields_over s e)
    go ih false e false o = fields_broken (with_cr_lf s) (over_kept s h ∙ e) (opens_kept s ∙ o) ∙ sym (fields_broken s e o)
    go ih false e true o =
        fields_one (with_cr_lf s) (over_kept s h ∙ e) (opens_kept s ∙ o) ∙ rw (name_kept s, value_kept o, rest_kept o, ih) (sym (fields_one s e o))

pub line_endings : (s : List ℕ) → LfAlone s → fields (with_cr_lf s) ≡ fields s
line_endings s h = within (length s) s (omega arith) h
