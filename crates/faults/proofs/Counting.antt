-- How many faults a field has, and their numbers.
--     numbers_both, faults_both     of one list behind another
--     numbers_long, faults_long     how many there are
--     kinds_none, kinds_next        the kinds below a number, from the first on
--     few_kinds, kinds_most         a field has at most seven of them
--     numbers_most                  and so at most 21 numbers
--     none_of_none                  a field without faults has none of them
-- Assumes nothing.
use Prim.Native.Nat.{ℕ, zero, suc, ◌+◌, ◌*◌, ◌≤◌}
use mathlib.Core.Path.{◌≡◌, refl, ap}
use mathlib.Core.Bool.{Bool, true, false}
use mathlib.Core.List.{List, [], ◌∷◌, ◌++◌}
use native.Mathlib.Numerals.{add-one}
use native.Mathlib.Omega.{arith}
use lib.ListN.{length, length-append}
use Rattle.faults.specs.declared.Flaws.{Flaws}
use Rattle.faults.specs.Faults.{Fault, no_flaws, has_kind, only_if, kinds_below, kinds, faults_at, numbers_of}

pub numbers_both : (a b : List Fault) → numbers_of (a ++ b) ≡ numbers_of a ++ numbers_of b
unfolding numbers_of
numbers_both [] b = refl
numbers_both (f ∷ a) b = rw (numbers_both a b)

pub numbers_long : (l : List Fault) → length (numbers_of l) ≡ 3 * length l
unfolding numbers_of
numbers_long [] = refl
numbers_long (f ∷ l) = omega (arith, numbers_long l)

module _ (block place : ℕ) where
  pub faults_both : (k l : List ℕ) → faults_at block place (k ++ l) ≡ faults_at block place k ++ faults_at block place l
  unfolding faults_at
  faults_both [] l = refl
  faults_both (x ∷ k) l = rw (faults_both k l)

  pub faults_long : (k : List ℕ) → length (faults_at block place k) ≡ length k
  unfolding faults_at
  faults_long [] = refl
  faults_long (x ∷ k) = ap suc (faults_long k)

one_at_most : (b : Bool) (k : ℕ) → length (only_if b k) ≤ 1
unfolding only_if
one_at_most true k = omega arith
one_at_most false k = omega arith

module _ (w : Flaws) where
  -- neither 0 nor 1 is a kind of a field
  pub kinds_none : kinds_below w 2 ≡ []
  unfolding kinds_below has_kind only_if
  kinds_none = refl

  pub kinds_next : (n : ℕ) → kinds_below w (n + 1) ≡ kinds_below w n ++ only_if (has_kind w n) n
  unfolding kinds_below
  kinds_next n = rw add-one

  pub few_kinds : (n : ℕ) → length (kinds_below w (n + 2)) ≤ n
  few_kinds zero = rw kinds_none (omega arith)
  few_kinds (suc n) =
      let e : suc n + 2 ≡ n + 2 + 1 = omega arith in
      rw (e, kinds_next (n + 2), length-append) (omega (arith, few_kinds n, one_at_most (has_kind w (n + 2)) (n + 2)))

  pub kinds_most : length (kinds w) ≤ 7
  unfolding kinds
  kinds_most = few_kinds 7

  pub numbers_most : (block place : ℕ) → length (numbers_of (faults_at block place (kinds w))) ≤ 21
  numbers_most block place = omega (arith, numbers_long (faults_at block place (kinds w)), faults_long block place (kinds w), kinds_most)

pub none_of_none : kinds no_flaws ≡ []
unfolding kinds kinds_below has_kind only_if no_flaws
none_of_none = refl
