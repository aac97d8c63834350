-- Runs of zeros: the test `all_zero`, and what a loop knows that keeps the largest octet.
--     zero_true, zero_replicate    the test says yes exactly to a run of zeros
--     Zeros s most i               the test comes to "most is 0" and what is left from i on
--     zeros_begin .. zeros_end     the loop's steps
-- Assumes nothing.
use Prim.Native.Nat.{ℕ, suc, zero, ◌+◌, ◌<◌, ◌≤◌, max}
use mathlib.Core.Path.{◌≡◌, refl, sym, ◌∙◌}
use mathlib.Core.Bool.{Bool, true, false, ◌&&◌, false≢true, and_assoc, and-true, and-false}
use mathlib.Core.List.{List, [], ◌∷◌}
use native.Mathlib.Nat.{max-zero, le-max_right}
use native.Mathlib.Omega.{arith}
use borrow.Author.Tests.{ne_eqb, eqb-true, eqb-false}
use borrow.Author.Rules.{rules}
use lib.Dec.{eqb}
use lib.ListN.{length, get_or, drop, replicate}
use Rattle.octets.specs.Octets.{all_zero}
use Rattle.octets.proofs.Lists.{drop_one, drop_done}

pub zero_true : (s : List ℕ) → all_zero s ≡ true → s ≡ replicate (length s) 0
unfolding all_zero
zero_true [] e = refl
zero_true (x ∷ s) e = go (λ q. zero_true s q) (eqb x 0) refl
  where
    go : (all_zero s ≡ true → s ≡ replicate (length s) 0) → (b : Bool) → eqb x 0 ≡ b → x ∷ s ≡ 0 ∷ replicate (length s) 0
    go tails true p = cc (eqb-true x 0 p, tails (rw p at e))
    go tails false p = absurd (false≢true (rw p at e))

pub zero_replicate : (n : ℕ) → all_zero (replicate n 0) ≡ true
unfolding all_zero
zero_replicate zero = refl
zero_replicate (suc n) = zero_replicate n

-- the larger of two numbers is 0 where both are
larger_zero : (a b : ℕ) → eqb (max a b) 0 ≡ (eqb a 0 && eqb b 0)
larger_zero a b = go (eqb b 0) refl
  where
    go : (t : Bool) → eqb b 0 ≡ t → eqb (max a b) 0 ≡ (eqb a 0 && t)
    go true p = rw (eqb-true b 0 p, max-zero a) (sym (and-true (eqb a 0)))
    go false p =
        ne_eqb (max a b) 0 (λ q. eqb-false b 0 p (omega (arith, le-max_right a b)))
        ∙ sym (and-false (eqb a 0))

pub record Zeros (s : List ℕ) (most i : ℕ) : Type 0 where
  pub upto : i ≤ length s
  pub so_far : all_zero s ≡ (eqb most 0 && all_zero (drop i s))

pub zeros_begin : (s : List ℕ) → Zeros s 0 0
zeros_begin s = record { upto = omega arith; so_far = refl }

module _ (s : List ℕ) (most i : ℕ) (h : Zeros s most i) where
  pub zeros_next : (m : ℕ) → i < length s → m ≡ max most (get_or s i 0) → Zeros s m (i + 1)
  unfolding all_zero
  zeros_next m l e =
      let step : all_zero (drop i s) ≡ (eqb (get_or s i 0) 0 && all_zero (drop (i + 1) s)) = rw (drop_one s i l) in
      record {
        upto = omega arith;
        so_far =
            h.so_far
            ∙ rw (step, e, larger_zero most (get_or s i 0)) (sym (and_assoc (eqb most 0) (eqb (get_or s i 0) 0) (all_zero (drop (i + 1) s))));
      }

  pub zeros_end : length s ≤ i → eqb most 0 ≡ all_zero s
  unfolding all_zero
  zeros_end l = sym (h.so_far ∙ rw (drop_done s i l) (and-true (eqb most 0)))

pub ruleset zeroing = (zeros_begin, zeros_next, zeros_end, rules)
