-- A field that is written in front of a text is the first of its fields (C6).
--     raw_lf, raw_cons, raw_text  how a value as a field has it is made
--     run_append, raw_append      a run or a value in front of a text ends where the text begins
--     field_in_front              the fields of name, colon, value and rest are that field and those of the rest
-- Assumes nothing.
use Prim.Native.Nat.{ℕ, suc, ◌<◌, ◌≤◌}
use mathlib.Core.Path.{◌≡◌, refl, sym, ap, ◌∙◌}
use mathlib.Core.Bool.{Bool, true, false, not, ◌&&◌, false≢true}
use mathlib.Core.List.{List, [], ◌∷◌, ◌++◌}
use native.Mathlib.Omega.{arith}
use borrow.Author.Tests.{eqb-true, lt-ltb, leb-true, not-true}
use lib.Dec.{leb, eqb}
use lib.ListN.{length, get_or}
use lib.Seq.{take-append_seam, drop-append_seam, drop-append-add, get_or-append_seam}
use Rattle.octets.specs.Octets.{octet, lf}
use Rattle.octets.specs.Options.{in_front}
use Rattle.octets.proofs.Tests.{and_left, and_right}
use Rattle.runs.specs.Runs.{belongs, run_length}
use Rattle.runs.specs.declared.Class.{Class}
use Rattle.runs.specs.declared.Class.TheVariants.{Name, Blank}
use Rattle.runs.proofs.Running.{run_in, run_out}
use Rattle.header.specs.Header.{of_ending, over, closes, raw_length, opens_field, name_of, after_colon, raw_of, rest_of, unfolded, fields}
use Rattle.header.specs.Blocks.{is_raw}
use Rattle.header.proofs.Telling.{ends_other, closes_other, closes_lf}
use Rattle.header.proofs.Counting.{raw_on, raw_last}
use Rattle.header.proofs.Unfolding.{NoLf}
use Rattle.header.proofs.Fields.{fields_one}

pub raw_lf : is_raw (lf ∷ []) ≡ true
unfolding is_raw
raw_lf = refl

pub raw_cons : (x : ℕ) (s : List ℕ) → closes x (get_or s 0 0) ≡ false → is_raw s ≡ true → is_raw (x ∷ s) ≡ true
unfolding is_raw
raw_cons x [] e h = absurd (false≢true h)
raw_cons x (y ∷ s) e h = rw (is_raw, e) h

pub raw_text : (t s : List ℕ) → NoLf t → is_raw s ≡ true → is_raw (t ++ s) ≡ true
raw_text [] s n h = h
raw_text (x ∷ t) s n h = raw_cons x (t ++ s) (sym (closes_other x (get_or (t ++ s) 0 0) (n 0))) (raw_text t s (λ i. n (suc i)) h)

-- an octet that opens a run of nothing else is of its class, and so is the rest
run_all : (class : Class) (x : ℕ) (s : List ℕ) → run_length class (x ∷ s) ≡ suc (length s) → (belongs class x ≡ true) × (run_length class s ≡ length s)
run_all class x s h = go (belongs class x) refl
  where
    go : (b : Bool) → belongs class x ≡ b → (belongs class x ≡ true) × (run_length class s ≡ length s)
    go true e = (e, omega (arith, run_in (belongs class) x s e))
    go false e = absurd (omega (arith, run_out (belongs class) x s e))

pub run_append : (class : Class) (s t : List ℕ) → run_length class s ≡ length s → run_length class t ≡ 0 → run_length class (s ++ t) ≡ length s
run_append class [] t h o = o
run_append class (x ∷ s) t h o =
    let p : (belongs class x ≡ true) × (run_length class s ≡ length s) = run_all class x s h in
    run_in (belongs class) x (s ++ t) p.0 ∙ ap suc (run_append class s t p.1 o)

pub raw_append : (s t : List ℕ) → is_raw s ≡ true → belongs Blank (get_or t 0 0) ≡ false → raw_length (s ++ t) ≡ length s
unfolding is_raw
raw_append [] t h o = absurd (false≢true h)
raw_append (x ∷ []) t h o = raw_last x t (sym (closes_lf x (get_or t 0 0) (get_or t 0 0) false (eqb-true x lf h) refl (sym o)))
raw_append (x ∷ y ∷ s) t h o =
    let c : not (closes x y) ≡ true = and_left (not (closes x y)) (is_raw (y ∷ s)) h in
    let r : is_raw (y ∷ s) ≡ true = and_right (not (closes x y)) (is_raw (y ∷ s)) h in
    raw_on x (y ∷ s ++ t) (not-true (closes x y) c) ∙ ap suc (raw_append (y ∷ s) t r o)

-- an octet of a name is of no line ending
name_no_ending : (x y : ℕ) → belongs Name x ≡ true → of_ending x y ≡ false
unfolding belongs
name_no_ending x y h =
    let l : 33 ≤ x = leb-true 33 x (and_left (leb 33 x) (leb x 126) (and_left (leb 33 x && leb x 126) (not (eqb x (octet ":"))) h)) in
    sym (ends_other x y (λ e. omega arith) (λ e. omega arith))

module _ (name raw rest : List ℕ) (named : run_length Name name ≡ length name) (some_name : 0 < length name)
    (whole_raw : is_raw raw ≡ true) (no_blank : belongs Blank (get_or rest 0 0) ≡ false) where
  whole : List ℕ
  whole = name ++ (octet ":" ∷ (raw ++ rest))

  name_ends : run_length Name whole ≡ length name
  unfolding whole belongs
  name_ends = run_append Name name (octet ":" ∷ (raw ++ rest)) named (run_out (belongs Name) (octet ":") (raw ++ rest) refl)

  goes_on : over whole ≡ false
  unfolding whole over
  goes_on = go name named some_name
    where
      go : (n : List ℕ) → run_length Name n ≡ length n → 0 < length n → over (n ++ (octet ":" ∷ (raw ++ rest))) ≡ false
      go [] h p = absurd (omega arith)
      go (x ∷ n) h p = name_no_ending x (get_or (n ++ (octet ":" ∷ (raw ++ rest))) 0 0) (run_all Name x n h).0

  opens : opens_field whole ≡ true
  unfolding whole opens_field
  opens = rw (opens_field, name_ends, lt-ltb 0 (length name) some_name, get_or-append_seam name (octet ":") (raw ++ rest) 0)

  after : after_colon whole ≡ raw ++ rest
  unfolding whole
  after = rw name_ends (drop-append-add name (octet ":" ∷ (raw ++ rest)) 1)

  raw_ends : raw_length (after_colon whole) ≡ length raw
  raw_ends = ap raw_length after ∙ raw_append raw rest whole_raw no_blank

  name_is : name_of whole ≡ name
  unfolding whole
  name_is = rw name_ends (take-append_seam name (octet ":" ∷ (raw ++ rest)))

  raw_is : raw_of whole ≡ raw
  raw_is = rw (raw_ends, after) (take-append_seam raw rest)

  rest_is : rest_of whole ≡ rest
  rest_is = rw (raw_ends, after) (drop-append_seam raw rest)

  pub field_in_front : fields (name ++ (octet ":" ∷ (raw ++ rest))) ≡ in_front (record { name = name; value = unfolded raw }) (fields rest)
  unfolding whole
  field_in_front = fields_one whole goes_on opens ∙ rw (name_is, raw_is, rest_is)
