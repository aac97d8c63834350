-- A part of a value that was unfolded into a lent text: it is read off the text, and lies there.
--     part_there, part_within
-- Assumes nothing.
use Prim.Native.Nat.{ℕ, ◌-◌, ◌≤◌}
use mathlib.Core.Path.{◌≡◌}
use mathlib.Core.List.{List}
use native.Mathlib.Omega.{arith}
use lib.ListN.{length, take, drop, length-append, length-drop}
use lib.Seq.{take-append-le, drop-append-le}
use Rattle.octets.specs.Written.{onto}

module _ (w d out : List ℕ) (o : out ≡ onto w d) (from to : ℕ) (l : from ≤ to) (u : to ≤ length w) where
  pub part_within : to ≤ length out
  unfolding onto
  part_within = rw (o, length-append) (omega arith)

  pub part_there : take (to - from) (drop from out) ≡ take (to - from) (drop from w)
  unfolding onto
  part_there =
      rw (o, drop-append-le from w (drop (length w) d) (omega arith))
      (take-append-le (to - from) (drop from w) (drop (length w) d) (omega (arith, length-drop from w)))
