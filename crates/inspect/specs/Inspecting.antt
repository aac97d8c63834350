-- SCOPE, T13 and T14: a table looked at. Refusals 1 and 2, which every call on a table begins with, and one entry by its slot.
--     is_sound, broken_slot           what the check answers: nothing is wrong; the lowest slot that is
--     table_rows_by, table_rows       rows 1 and 2, by either rule; by the one in force
--     OpensBy, Opens                  the answer on them, with the tags of the table where neither holds
--     showing_rows, refused_showing   one entry by its slot: rows 1, 2 and 12
--     left_by_showing                 what the lent numbers hold afterwards. What they say is said by the crate `entry`
use Rattle.std.specs.Prelude.{ℕ, ◌≡◌, Bool, true, false, List, [], ◌∷◌, ◌++◌, leb, length, Result, Ok}
use Rattle.std.specs.Prelude.{Option}
use Rattle.octets.specs.Written.{onto}
use Rattle.refusals.specs.Rows.{Row, ◌unless◌, first_of, answer_of, unless_refused}
use Rattle.refusals.specs.declared.Refusal.{Refusal}
use Rattle.refusals.specs.declared.Refusal.TheVariants.{TableLength, BrokenSlot, OutputLength}
use Rattle.slots.specs.declared.Spelling.{Spelling}
use Rattle.slots.specs.declared.Spelling.TheVariants.{Canonical}
use Rattle.table.specs.Table.{whole, checked_by}
use Rattle.table.specs.Tagged.{OpenBy}
use Rattle.table.specs.declared.Checked.{Checked}
use Rattle.table.specs.declared.Checked.TheVariants.{Sound, Length, Slot}
use Rattle.entry.specs.Shown.{shown_count, shown_at}

-- T13: the check found a sound table
unfoldable pub is_sound : Checked → Bool
is_sound Sound = true
is_sound Length = false
is_sound (Slot i) = false

-- R2: the index of the lowest slot that is neither free nor sound; 0 where the answer has none
unfoldable pub broken_slot : Checked → ℕ
broken_slot Sound = 0
broken_slot Length = 0
broken_slot (Slot i) = i

-- R1, R2: the length is not that of 1 to 256 whole slots; some slot is neither free nor sound, and the lowest index of such a one is answered
unfoldable pub table_rows_by : Spelling → List ℕ → List Row
table_rows_by how t = (TableLength unless whole t) ∷ (BrokenSlot (broken_slot (checked_by how t)) unless is_sound (checked_by how t)) ∷ []

abbrev pub table_rows : List ℕ → List Row
table_rows t = table_rows_by Canonical t

-- the tags are handed out where there is nothing to refuse
pub record OpensBy (how : Spelling) (t tags : List ℕ) (r : Result (Unit {0}) Refusal) : Type 0 where
  pub answer : r ≡ answer_of (first_of (table_rows_by how t))
  pub opens : r ≡ Ok tt → OpenBy how t tags

abbrev pub Opens : List ℕ → List ℕ → Result (Unit {0}) Refusal → Type 0
Opens t tags r = OpensBy Canonical t tags r

-- T14, R12: behind rows 1 and 2, 12 where fewer than eleven numbers are lent
unfoldable pub showing_rows : List ℕ → ℕ → List Row
showing_rows t room = table_rows t ++ ((OutputLength unless leb shown_count room) ∷ [])

-- T14, R31: the first of these rows that holds
unfoldable pub refused_showing : List ℕ → ℕ → Option Refusal
refused_showing t room = first_of (showing_rows t room)

-- T14, R32: the numbers of the slot, and behind the eleventh what was there; with a refusal all stay as they were
unfoldable pub left_by_showing : List ℕ → ℕ → List ℕ → List ℕ
left_by_showing t slot numbers = unless_refused (refused_showing t (length numbers)) numbers (onto (shown_at t slot) numbers)
