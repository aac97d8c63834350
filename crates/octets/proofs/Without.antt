-- Lists without what passes a test.
--     without_none                      nothing stays nothing
--     without_passing, without_other    one element that goes, and one that stays
-- Assumes nothing.
use Prim.Native.Nat.{ℕ}
use mathlib.Core.Path.{◌≡◌, refl}
use mathlib.Core.Bool.{Bool, true, false}
use mathlib.Core.List.{List, [], ◌∷◌}
use Rattle.octets.specs.Tests.{without}

module _ (test : ℕ → Bool) where
  pub without_none : without test [] ≡ []
  unfolding without
  without_none = refl

  module _ (x : ℕ) (s : List ℕ) where
    pub without_passing : test x ≡ true → without test (x ∷ s) ≡ without test s
    unfolding without
    without_passing e = rw (without, e)

    pub without_other : test x ≡ false → without test (x ∷ s) ≡ x ∷ without test s
    unfolding without
    without_other e = rw (without, e)
