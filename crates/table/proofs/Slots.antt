-- The slots of a table, and the table with one of them replaced.
--     room                        slot i ends within the table
--     slot_long                   a slot has 4,392 octets
--     slot_octets                 they are octets
--     part_is .. part_sound       a part that starts at i times 4,392 is slot i
--     area_octets                 the octets of an area of slot i, cut out of the table
--     put_slot                    a slot that was lent on, back in its place
--     slots_kept, length_kept     a slot that is replaced leaves the table's length
--     slot_same, slot_other       the slot that was replaced, and any other
--     lending                     what the code asks that reads one slot, or lends it on
-- Assumes nothing.
use Prim.Native.Nat.{ℕ, ◌+◌, ◌-◌, ◌*◌, ◌<◌, ◌≤◌}
use mathlib.Core.Path.{◌≡◌, ◌∙◌}
use mathlib.Core.Logic.{⊎_elim}
use mathlib.Core.Bool.{true}
use mathlib.Core.List.{List, ◌++◌}
use native.Mathlib.Omega.{arith}
use borrow.Author.Rules.{rules}
use lib.ListN.{length, take, drop, replicate, length-take, length-drop}
use lib.Seq.{take_at, drop_at, take-take, drop-drop, length-take-le}
use Rattle.octets.specs.Octets.{AllOctets}
use Rattle.octets.specs.Written.{put_at}
use Rattle.octets.proofs.Lists.{take_octets, drop_octets, lt_or_le}
use Rattle.slots.specs.Slot.{slot_length, free_slot, sound_by}
use Rattle.slots.specs.declared.Spelling.{Spelling}
use Rattle.heads.proofs.Parts.{drop_take, part_back, part_before, part_behind, put_length}
use Rattle.table.specs.Table.{slots, slot_at, with_slot}

module _ (t : List ℕ) (i : ℕ) (h : i < slots t) where
  pub room : i * 4392 + 4392 ≤ length t
  unfolding slots
  room = omega arith

  pub slot_long : length (slot_at t i) ≡ slot_length
  unfolding slot_at
  slot_long = simp (length-take, length-drop) (omega (arith, room))

  -- as the code has them
  pub part_is : take (i * 4392 + 4392 - i * 4392) (drop (i * 4392) t) ≡ slot_at t i
  unfolding slot_at
  part_is =
      let e : i * 4392 + 4392 - i * 4392 ≡ 4392 = omega arith in
      rw e

  pub part_long : length (take (i * 4392 + 4392 - i * 4392) (drop (i * 4392) t)) ≡ slot_length
  part_long = rw part_is slot_long

  pub part_cleared : replicate (length (take (i * 4392 + 4392 - i * 4392) (drop (i * 4392) t))) 0 ≡ free_slot
  part_cleared = rw part_long

  pub part_sound : (how : Spelling) → sound_by how (slot_at t i) ≡ true → sound_by how (take (i * 4392 + 4392 - i * 4392) (drop (i * 4392) t)) ≡ true
  part_sound how s = rw part_is s

  pub put_slot : (w : List ℕ) → length w ≡ length (take (i * 4392 + 4392 - i * 4392) (drop (i * 4392) t))
      → take (i * 4392) t ++ (w ++ drop (i * 4392 + 4392 - i * 4392) (drop (i * 4392) t)) ≡ with_slot t i w
  unfolding with_slot
  put_slot w l =
      let e : i * 4392 + 4392 - i * 4392 ≡ 4392 = omega arith in
      rw e (part_back t w (i * 4392) 4392 (l ∙ part_long))

-- the first n octets of an area of the slot
pub area_octets : (t : List ℕ) (i at long n : ℕ) → at + long ≤ 4392 → n ≤ long
    → take n (drop (i * 4392 + at) t) ≡ take n (take long (drop at (slot_at t i)))
unfolding slot_at
area_octets t i at long n l m =
    rw (
      take-take n long (drop at (take 4392 (drop (i * 4392) t))) m,
      drop_take at 4392 (drop (i * 4392) t),
      take-take n (4392 - at) (drop at (drop (i * 4392) t)) (omega arith),
      drop-drop at (i * 4392) t,
    )

pub slot_octets : (t : List ℕ) (i : ℕ) → AllOctets t → AllOctets (slot_at t i)
unfolding slot_at
slot_octets t i o = take_octets slot_length (drop (i * slot_length) t) (drop_octets (i * slot_length) t o)

module _ (t s : List ℕ) (i : ℕ) (h : i < slots t) (l : length s ≡ slot_length) where
  pub length_kept : length (with_slot t i s) ≡ length t
  unfolding with_slot
  length_kept = put_length t s (i * 4392) (omega (arith, room t i h))

  pub slots_kept : slots (with_slot t i s) ≡ slots t
  unfolding slots
  slots_kept = rw length_kept

  -- the table in three parts
  before_long : length (take (i * 4392) t) ≡ i * 4392
  before_long = length-take-le (i * 4392) t (omega (arith, room t i h))

  pub slot_same : slot_at (with_slot t i s) i ≡ s
  unfolding slot_at with_slot put_at
  slot_same =
      rw (drop_at (take (i * 4392) t) (s ++ drop (i * 4392 + length s) t) (i * 4392) before_long)
      (take_at s (drop (i * 4392 + length s) t) 4392 l)

  pub slot_other : (j : ℕ) → (j ≡ i → ⊥) → slot_at (with_slot t i s) j ≡ slot_at t j
  unfolding slot_at with_slot
  slot_other j n =
      ⊎_elim (λ (b : j < i). part_before t s (i * 4392) (j * 4392) 4392 (omega arith) (omega (arith, room t i h)))
      (λ (b : i ≤ j).
      ⊎_elim (λ (a : i < j). part_behind t s (i * 4392) (j * 4392) 4392 (omega arith) (omega (arith, room t i h)))
      (λ (a : j ≤ i). absurd (n (omega arith)))
      (lt_or_le i j))
      (lt_or_le j i)

pub ruleset lending = (part_is, part_long, part_cleared, part_sound, put_slot, rules)
