-- How long the lines of a table are.
--     numbers_most     what a line says behind its address
--     slot_most        the text of a slot of a sound table
--     lines_most       the lines of some of its slots
--     lines_fit        those of all, where there are at most 14
-- Assumes nothing.
use Prim.Native.Nat.{ℕ, suc, zero, ◌+◌, ◌*◌, ◌^◌, ◌<◌, ◌≤◌}
use mathlib.Core.Path.{◌≡◌, refl, ap}
use mathlib.Core.Bool.{Bool, true, false}
use mathlib.Core.List.{List, ◌++◌}
use native.Mathlib.Omega.{arith}
use lib.ListN.{length, length-append}
use Rattle.octets.proofs.Tests.{by_test}
use Rattle.heads.specs.declared.Head.{Head}
use Rattle.heads.specs.Head.{head_of}
use Rattle.slots.specs.Slot.{slot_length, marked, address_of}
use Rattle.heads.specs.Entry.{head_for, present}
use Rattle.slots.specs.Entry.{entry_of}
use Rattle.slots.specs.declared.Spelling.TheVariants.{Canonical}
use Rattle.slots.proofs.Entries.{spelled_most}
use Rattle.slots.specs.Facts.{Sound as SoundSlot}
use Rattle.slots.proofs.Sounds.{sound_parts}
use Rattle.slots.proofs.Entries.{head_back, direct_key_in, gossip_key_in}
use Rattle.table.specs.Table.{slots, slot_at, checked}
use Rattle.table.specs.declared.Checked.TheVariants.{Sound}
use Rattle.table.proofs.Slots.{slot_long}
use Rattle.table.proofs.Keeping.{table_sound, used_sound}
use Rattle.columns.specs.Columns.{time_text, preference_text}
use Rattle.printout.specs.Printout.{slot_text, lines_from, most_listed, line_room, room}
use Rattle.printout.specs.Parts.{direct_part, gossip_part, numbers_part}
use Rattle.columns.proofs.Decimal.{decimal_most, ended_long}
use Rattle.printout.proofs.Lines.{slot_free, slot_parts}

-- a number of at most 20 digits
abbrev Small : ℕ → Type 0
Small n = n < 10 ^ 20

time_most : (b : Bool) (t : ℕ) → Small t → length (time_text (present b t)) ≤ 20
unfolding time_text
time_most true t h = decimal_most 19 t h
time_most false t h = omega arith

preference_most : (b : Bool) → length (preference_text b) ≤ 6
unfolding preference_text
preference_most true = omega arith
preference_most false = omega arith

numbers_most : (n : Head) → Small n.last_seen → Small n.timestamp → Small n.gossip_timestamp → Small n.direct_length
    → Small n.gossip_length → length (numbers_part n) ≤ 112
unfolding numbers_part direct_part gossip_part
numbers_most n s t g d k =
    simp (length-append, ended_long)
    (omega (
      arith,
      time_most n.seen n.last_seen s,
      time_most n.direct n.timestamp t,
      time_most n.gossip n.gossip_timestamp g,
      decimal_most 19 n.direct_length d,
      decimal_most 19 n.gossip_length k,
      preference_most n.«mutual»,
    ))

module _ (t : List ℕ) (c : checked t ≡ Sound) where
  used_most : (i : ℕ) → i < slots t → marked (slot_at t i) ≡ true → length (numbers_part (head_of (slot_at t i))) ≤ 112
  unfolding head_of head_for
  used_most i l m =
      let p : SoundSlot (slot_at t i) = sound_parts (slot_at t i) (used_sound t (table_sound t c) i l m).0 in
      let back : head_for (entry_of (slot_at t i)) ≡ head_of (slot_at t i) = head_back (slot_at t i) (slot_long t i l) p in
      numbers_most (head_of (slot_at t i))
      (omega (arith, p.seen_range))
      (omega (arith, p.direct_range))
      (omega (arith, p.gossip_range))
      (omega (arith, direct_key_in (slot_at t i) (slot_long t i l) p, ap (λ (n : Head). n.direct_length) back))
      (omega (arith, gossip_key_in (slot_at t i) (slot_long t i l) p, ap (λ (n : Head). n.gossip_length) back))

  slot_most : (i : ℕ) → i < slots t → length (slot_text (slot_at t i)) ≤ line_room
  slot_most i l =
      by_test (marked (slot_at t i))
      (λ m.
      let p : SoundSlot (slot_at t i) = sound_parts (slot_at t i) (used_sound t (table_sound t c) i l m).0 in
      rw (slot_parts t i c l m, length-append, ended_long)
      (omega (arith, used_most i l m, spelled_most Canonical (address_of (slot_at t i)) p.address)))
      (λ m. rw (slot_free t i m) (omega arith))

  lines_on : (i k : ℕ) → lines_from t i (suc k) ≡ slot_text (slot_at t i) ++ lines_from t (i + 1) k
  unfolding lines_from
  lines_on i k = refl

  lines_most : (i k : ℕ) → i + k ≤ slots t → length (lines_from t i k) ≤ k * line_room
  unfolding lines_from
  lines_most i zero h = omega arith
  lines_most i (suc k) h = rw (lines_on, length-append) (omega (arith, slot_most i (omega arith), lines_most (i + 1) k (omega arith)))

  pub lines_fit : length t ≤ most_listed * slot_length → length (lines_from t 0 (slots t)) ≤ room
  unfolding slots
  lines_fit h = omega (arith, lines_most 0 (slots t) (omega arith))
