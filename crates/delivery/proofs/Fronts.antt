-- The length of a part from the front on, as the code takes it.
-- Assumes nothing.
use Prim.Native.Nat.{ℕ, ◌-◌, ◌≤◌}
use mathlib.Core.Path.{◌≡◌}
use mathlib.Core.List.{List}
use native.Mathlib.Omega.{arith}
use native.Mathlib.Nat.{sub-zero}
use lib.ListN.{length, take, drop, length-take}

pub front_length : (n : ℕ) (s : List ℕ) → n ≤ length s → length (take (n - 0) (drop 0 s)) ≡ n
front_length n s h = rw sub-zero (simp length-take (omega arith))
