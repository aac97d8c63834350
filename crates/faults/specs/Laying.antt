-- Numbers written to a list that may be too short for them (SCOPE, O1).
--     laid_at      a list with numbers over it from a place on, as far as it goes
--     Placed       one number over it
--     numbers_if   the numbers of a fault, if it is there
--     room         how far a place may lie
use Rattle.std.specs.Prelude.{ℕ, ◌+◌, ◌≡◌, Bool, cond, List, [], ◌∷◌, set}

-- what has no room is left out
unfoldable pub laid_at : List ℕ → ℕ → List ℕ → List ℕ
laid_at d at [] = d
laid_at d at (x ∷ w) = laid_at (set d at x) (at + 1) w

-- one number laid on d: out is what comes of it
pub record Placed (d : List ℕ) (at x : ℕ) (out : List ℕ) : Type 0 where
  pub placed : out ≡ laid_at d at (x ∷ [])

unfoldable pub numbers_if : Bool → ℕ → ℕ → ℕ → List ℕ
numbers_if there block place kind = cond there (block ∷ place ∷ kind ∷ []) []

-- more than the numbers of all faults of two blocks, so that sums of places fit
abbrev pub room : ℕ
room = 4294967296
