-- Whether a number is among the first n of a list.
--     first_is                     the library's word for it
--     first_at                     a number that stands there is among them
--     first_not                    one that is not among them stands at no place
-- Assumes nothing.
use Rattle.std.proofs.Common.{◌≡◌, ℕ, zero, suc, ◌<◌, ◌≤◌, true, false, eqb, List, get_or, sym, refl, ◌∙◌, ⊎_elim, add-one, length, take, arith, eq-eqb}
use Rattle.std.specs.List.{list_any}
use Rattle.std.proofs.lemmas.List.Folds.{list_any_more}
use mathlib.Core.Bool.{or-true, false≢true}
use Rattle.octets.proofs.Lists.{lt_or_le}
use Rattle.tags.specs.Tags.{in_first}

module _ (x : ℕ) (tags : List ℕ) where
  pub first_is : (n : ℕ) → n ≤ length tags → list_any (λ y. eqb y x) (take n tags) ≡ in_first x tags n
  unfolding in_first
  first_is zero l = refl
  first_is (suc n) l =
      (rw add-one at (list_any_more {X = ℕ} (λ y. eqb y x) tags n 0 l)) ∙ rw (first_is n (omega arith))

  pub first_at : (n k : ℕ) → k < n → get_or tags k 0 ≡ x → in_first x tags n ≡ true
  unfolding in_first
  first_at zero k l e = absurd (omega arith)
  first_at (suc n) k l e =
      ⊎_elim (λ (m : k < n). rw (first_at n k m e))
      (λ (m : n ≤ k). let q : k ≡ n = omega arith in rw (eq-eqb (get_or tags n 0) x (rw q at e)) (or-true (in_first x tags n)))
      (lt_or_le k n)

  pub first_not : (n k : ℕ) → in_first x tags n ≡ false → k < n → get_or tags k 0 ≡ x → ⊥
  first_not n k e l p = false≢true (sym e ∙ first_at n k l p)
