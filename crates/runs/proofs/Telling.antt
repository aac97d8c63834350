-- The octets of atoms as ranges, held to their definition at each of the 256 octets.
--     atom_high .. atom_low       from the highest range down
-- Assumes nothing.
use Prim.Native.Nat.{ℕ, ◌<◌, ◌≤◌}
use mathlib.Core.Path.{◌≡◌, refl}
use mathlib.Core.Bool.{Bool, cond, not, ◌&&◌, ◌||◌, beq}
use borrow.Author.Tests.{le-leb, lt-leb}
use lib.Dec.{leb, eqb}
use Rattle.octets.proofs.Tests.{same_bool, all_below_lem}
use Rattle.runs.specs.Runs.{belongs}
use Rattle.runs.specs.declared.Class.TheVariants.{Atom}

-- the octets of atoms as the code tests for them: those from "-" to "@", those below, and all
abbrev middle : ℕ → Bool
middle x = leb x 57 && not (eqb x 46) || eqb x 61 || eqb x 63

abbrev lowest : ℕ → Bool
lowest x = leb 42 x && leb x 43 || leb 35 x && leb x 39 || eqb x 33

abbrev ranges : ℕ → Bool
ranges x = cond (leb 94 x) (not (eqb x 127)) (cond (leb 65 x) (leb x 90) (cond (leb 45 x) (middle x) (lowest x)))

alike : ℕ → Bool
alike x = beq (ranges x) (belongs Atom x)

module _ (x : ℕ) (h : x < 256) where
  atom_ranges : ranges x ≡ belongs Atom x
  unfolding alike belongs
  atom_ranges = same_bool (ranges x) (belongs Atom x) (all_below_lem alike 256 refl x h)

  pub atom_high : 94 ≤ x → not (eqb x 127) ≡ belongs Atom x
  atom_high l = rw (le-leb 94 x l) at atom_ranges

  pub atom_capital : x < 94 → 65 ≤ x → leb x 90 ≡ belongs Atom x
  atom_capital l k = rw (lt-leb 94 x l, le-leb 65 x k) at atom_ranges

  pub atom_middle : x < 94 → x < 65 → 45 ≤ x → middle x ≡ belongs Atom x
  atom_middle l k m = rw (lt-leb 94 x l, lt-leb 65 x k, le-leb 45 x m) at atom_ranges

  pub atom_low : x < 94 → x < 65 → x < 45 → lowest x ≡ belongs Atom x
  atom_low l k m = rw (lt-leb 94 x l, lt-leb 65 x k, lt-leb 45 x m) at atom_ranges
