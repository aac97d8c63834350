-- What a head says stands in its first 40 octets.
--     head_first     the numbers
--     clear_first    the octets that must be clear
--     bits_read      the bits as a number
-- Assumes nothing.
use Prim.Native.Nat.{ℕ, ◌+◌, ◌-◌, ◌≤◌}
use mathlib.Core.Path.{◌≡◌}
use mathlib.Core.Bool.{cond}
use mathlib.Core.List.{List}
use native.Mathlib.Omega.{arith}
use lib.ListN.{get_or, take, drop}
use lib.Seq.{take-take, get_or-take}
use Rattle.heads.specs.declared.Head.{Head}
use Rattle.heads.specs.Head.{head_of, clear, bits_of}
use Rattle.heads.proofs.Parts.{drop_take}

module _ (s : List ℕ) where
  -- a part within the first 40 octets
  part_first : (at n : ℕ) → at + n ≤ 40 → take n (drop at (take 40 s)) ≡ take n (drop at s)
  part_first at n h = rw (drop_take at 40 s) (take-take n (40 - at) (drop at s) (omega arith))

  bits_first : get_or (take 40 s) 4 0 ≡ get_or s 4 0
  bits_first = get_or-take 40 s 4 0 (omega arith)

  pub head_first : head_of (take 40 s) ≡ head_of s
  unfolding head_of
  head_first =
      rw (
        bits_first,
        part_first 2 2 (omega arith),
        part_first 8 8 (omega arith),
        part_first 16 8 (omega arith),
        part_first 24 8 (omega arith),
        part_first 32 2 (omega arith),
        part_first 34 2 (omega arith),
      )

  pub clear_first : clear (take 40 s) ≡ clear s
  unfolding clear
  clear_first = rw (bits_first, part_first 5 3 (omega arith), part_first 36 4 (omega arith))

pub bits_read : (n : Head) (a b c d : ℕ)
    → (a ≡ cond n.seen 1 0) × (a ≤ 1) → (b ≡ cond n.direct 2 0) × (b ≤ 2) → (c ≡ cond n.gossip 4 0) × (c ≤ 4) → (d ≡ cond n.«mutual» 8 0) × (d ≤ 8)
    → a + b + c + d ≡ bits_of n
unfolding bits_of
bits_read n a b c d ea eb ec ed = rw (ea.0, eb.0, ec.0, ed.0)
