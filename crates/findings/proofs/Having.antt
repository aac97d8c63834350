-- A fault found among those of fields, by the field that has it.
--     in_either, in_first, in_second    a fault in one list behind another
--     Has                               one of the fields has a fault
--     from_has, has_from                it has exactly what is found
-- Assumes nothing.
use Prim.Native.Nat.{ℕ, zero, suc, ◌+◌}
use mathlib.Core.Path.{◌≡◌, refl, sym, ◌∙◌}
use mathlib.Core.Bool.{Bool, true, ◌&&◌, ◌||◌, or-true, or-false, or_assoc, false≢true}
use mathlib.Core.List.{List, [], ◌∷◌, ◌++◌}
use Rattle.std.specs.Prelude.{Some}
use native.Mathlib.Omega.{arith}
use borrow.Author.Tests.{eqb-true, eq-eqb}
use lib.Dec.{eqb}
use lib.ListN.{take}
use Rattle.octets.proofs.Tests.{by_test, and_left, and_right}
use Rattle.header.specs.Header.{FieldText}
use Rattle.faults.specs.Faults.{Fault, has_kind, kinds, faults_at}
use Rattle.faults.specs.Found.{is_in}
use Rattle.faults.specs.declared.Flaws.{Flaws}
use Rattle.faults.proofs.Found.{in_both, in_kinds}
use Rattle.lookover.specs.Looking.{side_number, flaws_of, valid_in, faults_from, valid_behind}
use Rattle.lookover.specs.declared.Side.{Side}
use Rattle.findings.specs.Wrong.{field_at}

module _ (x : Fault) (a b : List Fault) where
  pub in_either : {P : Type 0} → is_in x (a ++ b) ≡ true → (is_in x a ≡ true → P) → (is_in x b ≡ true → P) → P
  in_either e first second = by_test (is_in x a) first (λ h. second (let q : (is_in x a || is_in x b) ≡ true = sym (in_both x a b) ∙ e in rw h at q))

  pub in_first : is_in x a ≡ true → is_in x (a ++ b) ≡ true
  in_first h = in_both x a b ∙ rw h

  pub in_second : is_in x b ≡ true → is_in x (a ++ b) ≡ true
  in_second h = in_both x a b ∙ rw h (or-true (is_in x a))

-- Of fields the first of which has this place, one has the fault, and so many stand in front of it. `seen` says whether a valid one stands before them all.
pub record Has (side : Side) (sender : List ℕ) (recipients : List (List ℕ)) (seen : Bool) (place : ℕ) (fs : List FieldText) (x : Fault) : Type 0 where
  pub front : ℕ
  pub field : FieldText
  pub there : field_at fs (suc front) ≡ Some field
  pub block : x.block ≡ side_number side
  pub placed : x.place ≡ place + front
  pub kind : has_kind (flaws_of side sender recipients (seen || valid_behind side sender (take front fs)) field) x.kind ≡ true

module _ (side : Side) (sender : List ℕ) (recipients : List (List ℕ)) (x : Fault) where
  -- the first of the fields has it
  has_first : (seen : Bool) (place : ℕ) (f : FieldText) (fs : List FieldText)
      → is_in x (faults_at (side_number side) place (kinds (flaws_of side sender recipients seen f))) ≡ true → Has side sender recipients seen place (f ∷ fs) x
  unfolding field_at valid_behind
  has_first seen place f fs e =
      let w : Flaws = flaws_of side sender recipients seen f in
      let h : (eqb x.block (side_number side) && eqb x.place place && has_kind w x.kind) ≡ true = sym (in_kinds x (side_number side) place w) ∙ e in
      let b : (eqb x.block (side_number side) && eqb x.place place) ≡ true = and_left _ (has_kind w x.kind) h in
      record {
        front = 0;
        field = f;
        there = refl;
        block = eqb-true x.block (side_number side) (and_left _ (eqb x.place place) b);
        placed = eqb-true x.place place (and_right (eqb x.block (side_number side)) _ b) ∙ omega arith;
        kind = rw (or-false seen) (and_right (eqb x.block (side_number side) && eqb x.place place) _ h);
      }

  -- one behind it has it
  has_later : (seen : Bool) (place : ℕ) (f : FieldText) (fs : List FieldText) → Has side sender recipients (seen || valid_in side sender f) (place + 1) fs x
      → Has side sender recipients seen place (f ∷ fs) x
  unfolding field_at valid_behind
  has_later seen place f fs h =
      record {
        front = suc h.front;
        field = h.field;
        there = h.there;
        block = h.block;
        placed = h.placed ∙ omega arith;
        kind = rw (← or_assoc seen (valid_in side sender f) (valid_behind side sender (take h.front fs))) h.kind;
      }

  pub from_has : (seen : Bool) (place : ℕ) (fs : List FieldText) → is_in x (faults_from side sender recipients seen place fs) ≡ true
      → Has side sender recipients seen place fs x
  unfolding faults_from is_in
  from_has seen place [] e = absurd (false≢true e)
  from_has seen place (f ∷ fs) e =
      in_either x (faults_at (side_number side) place (kinds (flaws_of side sender recipients seen f)))
      (faults_from side sender recipients (seen || valid_in side sender f) (place + 1) fs) e
      (has_first seen place f fs)
      (λ h. has_later seen place f fs (from_has (seen || valid_in side sender f) (place + 1) fs h))

  in_here : (seen : Bool) (place : ℕ) (f : FieldText) → x.block ≡ side_number side → x.place ≡ place
      → has_kind (flaws_of side sender recipients seen f) x.kind ≡ true
      → is_in x (faults_at (side_number side) place (kinds (flaws_of side sender recipients seen f))) ≡ true
  in_here seen place f b p k =
      in_kinds x (side_number side) place (flaws_of side sender recipients seen f)
      ∙ rw (eq-eqb x.block (side_number side) b, eq-eqb x.place place p) k

  pub has_from : (seen : Bool) (place : ℕ) (fs : List FieldText) (n : ℕ) (f : FieldText) → field_at fs (suc n) ≡ Some f
      → x.block ≡ side_number side → x.place ≡ place + n
      → has_kind (flaws_of side sender recipients (seen || valid_behind side sender (take n fs)) f) x.kind ≡ true
      → is_in x (faults_from side sender recipients seen place fs) ≡ true
  unfolding faults_from field_at valid_behind
  has_from seen place [] n f t b p k = let z : ◌≡◌ {A = ℕ} 0 1 = cc in absurd (omega arith)
  has_from seen place (g ∷ fs) zero f t b p k =
      let q : g ≡ f = cc in
      in_first x (faults_at (side_number side) place (kinds (flaws_of side sender recipients seen g)))
      (faults_from side sender recipients (seen || valid_in side sender g) (place + 1) fs)
      (in_here seen place g b (p ∙ omega arith) (rw (q, ← or-false seen) k))
  has_from seen place (g ∷ fs) (suc n) f t b p k =
      in_second x (faults_at (side_number side) place (kinds (flaws_of side sender recipients seen g)))
      (faults_from side sender recipients (seen || valid_in side sender g) (place + 1) fs)
      (has_from (seen || valid_in side sender g) (place + 1) fs n f t b (p ∙ omega arith)
      (rw (or_assoc seen (valid_in side sender g) (valid_behind side sender (take n fs))) k))
