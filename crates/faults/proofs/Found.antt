-- Which faults stand in a list.
--     in_both                in one list behind another
--     has_more, has_all      whether a field has a kind that lies below a number: one number more, and all of them
--     in_one .. in_below     among the faults of a field, kind by kind
--     in_kinds               a fault stands among those of a field exactly when it is one of that field
-- Assumes nothing.
use Prim.Native.Nat.{ℕ, zero, suc, ◌≤◌}
use mathlib.Core.Path.{◌≡◌, refl, sym, ◌∙◌}
use mathlib.Core.Bool.{Bool, true, false, ◌&&◌, ◌||◌, and-true, and-false, or-false, or_assoc, and-or_distrib_left}
use mathlib.Core.List.{List, [], ◌∷◌, ◌++◌}
use native.Mathlib.Omega.{arith}
use borrow.Author.Tests.{ltb-true, ltb-false, eqb-true, eqb-false, lt-ltb, le-ltb}
use lib.Dec.{eqb, ltb}
use Rattle.octets.proofs.Tests.{by_test}
use Rattle.faults.specs.declared.Flaws.{Flaws}
use Rattle.faults.specs.Faults.{Fault, has_kind, only_if, kinds_below, kinds, faults_at}
use Rattle.faults.specs.Found.{same_fault, is_in}
use Rattle.faults.proofs.Counting.{faults_both}
use Rattle.faults.proofs.Putting.{kind_none}

pub in_both : (f : Fault) (a b : List Fault) → is_in f (a ++ b) ≡ (is_in f a || is_in f b)
unfolding is_in
in_both f [] b = refl
in_both f (g ∷ a) b = rw (in_both f a b) (sym (or_assoc (same_fault f g) (is_in f a) (is_in f b)))

-- one number more
below_more : (k n : ℕ) → eqb k n ≡ false → ltb k (suc n) ≡ ltb k n
below_more k n d =
    by_test (ltb k n)
    (λ e. rw e (lt-ltb k (suc n) (omega (arith, ltb-true k n e))))
    (λ e. rw e (le-ltb k (suc n) (omega (arith, ltb-false k n e, eqb-false k n d))))

module _ (w : Flaws) (k : ℕ) where
  has_more : (n : ℕ) → (ltb k n && has_kind w k || eqb k n && has_kind w n) ≡ (ltb k (suc n) && has_kind w k)
  has_more n =
      by_test (eqb k n)
      (λ e. rw (e, eqb-true k n e, le-ltb n n (omega arith), lt-ltb n (suc n) (omega arith)))
      (λ e. rw (e, below_more k n e) (or-false (ltb k n && has_kind w k)))

  -- no kind lies above the last
  has_all : (ltb k 9 && has_kind w k) ≡ has_kind w k
  has_all = by_test (ltb k 9) (λ e. rw e) (λ e. rw e (past (ltb-false k 9 e)))
    where
      past : 9 ≤ k → false ≡ has_kind w k
      past l =
          kind_none w k (λ q. omega arith) (λ q. omega arith) (λ q. omega arith) (λ q. omega arith) (λ q. omega arith)
          (λ q. omega arith)
          (λ q. omega arith)

module _ (f : Fault) (block place : ℕ) where
  abbrev here : Bool
  here = eqb f.block block && eqb f.place place

  in_one : (b : Bool) (n : ℕ) → is_in f (faults_at block place (only_if b n)) ≡ (here && (eqb f.kind n && b))
  unfolding is_in same_fault faults_at only_if
  in_one true n = rw (or-false (here && eqb f.kind n), and-true (eqb f.kind n))
  in_one false n = rw (and-false (eqb f.kind n)) (sym (and-false here))

  module _ (w : Flaws) where
    in_below : (n : ℕ) → is_in f (faults_at block place (kinds_below w n)) ≡ (here && (ltb f.kind n && has_kind w f.kind))
    unfolding kinds_below faults_at is_in
    in_below zero = rw (le-ltb f.kind 0 (omega arith)) (sym (and-false here))
    in_below (suc n) =
        rw (faults_both, in_both, in_below n, in_one, ← has_more w f.kind n)
        (sym (and-or_distrib_left here (ltb f.kind n && has_kind w f.kind) (eqb f.kind n && has_kind w n)))

    pub in_kinds : is_in f (faults_at block place (kinds w)) ≡ (eqb f.block block && eqb f.place place && has_kind w f.kind)
    unfolding kinds
    in_kinds = in_below 9 ∙ rw (has_all w f.kind)
