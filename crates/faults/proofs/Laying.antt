-- Numbers laid on a list that may be too short for them.
--     laid_none, laid_both           no numbers, and numbers behind others
--     laid_long                      the list keeps its length
--     laid_put, laid_onto            where there is room for all of them, they are written as anywhere else
--     placed_there, placed_past      `put_number`: one number, at a place of the list and behind it (the ruleset placing)
-- Assumes nothing.
use Prim.Native.Nat.{ℕ, zero, suc, ◌+◌, ◌<◌, ◌≤◌}
use mathlib.Core.Path.{◌≡◌, refl, ap, ◌∙◌}
use mathlib.Core.List.{List, [], ◌∷◌, ◌++◌}
use native.Mathlib.Nat.{add-zero, zero-add}
use native.Mathlib.Omega.{arith}
use borrow.Author.Rules.{rules}
use lib.ListN.{length, set, length-set}
use Rattle.octets.specs.Written.{put_at, onto}
use Rattle.octets.proofs.Putting.{over_none, put_then}
use Rattle.faults.specs.Laying.{laid_at, Placed}

pub laid_none : (d : List ℕ) (at : ℕ) → laid_at d at [] ≡ d
unfolding laid_at
laid_none d at = refl

pub laid_both : (d : List ℕ) (at : ℕ) (v w : List ℕ) → laid_at (laid_at d at v) (at + length v) w ≡ laid_at d at (v ++ w)
unfolding laid_at
laid_both d at [] w = rw add-zero
laid_both d at (x ∷ v) w =
    let e : at + suc (length v) ≡ at + 1 + length v = omega arith in
    rw e (laid_both (set d at x) (at + 1) v w)

pub laid_long : (d : List ℕ) (at : ℕ) (w : List ℕ) → length (laid_at d at w) ≡ length d
unfolding laid_at
laid_long d at [] = refl
laid_long d at (x ∷ w) = laid_long (set d at x) (at + 1) w ∙ length-set d at x

pub laid_put : (d : List ℕ) (at : ℕ) (w : List ℕ) → at + length w ≤ length d → laid_at d at w ≡ put_at d at w
unfolding laid_at
laid_put d at [] h = over_none d at
laid_put d at (x ∷ w) h = laid_put (set d at x) (at + 1) w (simp length-set (omega arith)) ∙ put_then d at x w h

pub laid_onto : (d w : List ℕ) → length w ≤ length d → laid_at d 0 w ≡ onto w d
unfolding put_at onto
laid_onto d w h = laid_put d 0 w (omega arith) ∙ rw zero-add

-- `put_number`
module _ (d : List ℕ) (at x : ℕ) where
  pub placed_there : at < length d → Placed d at x (set d at x)
  unfolding laid_at
  placed_there h = record { placed = refl }

  pub placed_past : length d ≤ at → Placed d at x d
  unfolding laid_at
  placed_past h = record { placed = go d at h }
    where
      go : (d : List ℕ) (at : ℕ) → length d ≤ at → d ≡ set d at x
      go [] at h = refl
      go (y ∷ d) zero h = absurd (omega arith)
      go (y ∷ d) (suc at) h = ap (λ (l : List ℕ). y ∷ l) (go d at (omega arith))

pub ruleset placing = (placed_there, placed_past, rules)
