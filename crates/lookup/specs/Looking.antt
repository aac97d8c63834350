-- What those that look through a table (T13, T15) ask for, and what the check hands out.
--     Seeks       a tag is that of an address, to be looked for in the first n slots, whose tags are there
--     Judges      the tags up to that of slot i are there
--     Compares    the tags up to that of slot i are there, and the slot is used
--     Checks      the answer of the check by either rule, with the tags where it is that the table is sound
use Rattle.std.specs.Prelude.{ℕ, ◌+◌, ◌<◌, ◌≤◌, ◌≡◌, true, List}
use Rattle.slots.specs.Slot.{marked}
use Rattle.slots.specs.declared.Spelling.{Spelling}
use Rattle.tags.specs.Tags.{tag_of}
use Rattle.table.specs.Table.{slots, slot_at, checked_by}
use Rattle.table.specs.Tagged.{TaggedTo, OpenBy}
use Rattle.table.specs.declared.Checked.{Checked}
use Rattle.table.specs.declared.Checked.TheVariants.{Sound}

pub record Seeks (t tags a : List ℕ) (tag n : ℕ) : Type 0 where
  pub within : n ≤ slots t
  pub tagged : TaggedTo t tags n
  pub own : tag ≡ tag_of a

pub record Judges (t tags : List ℕ) (i : ℕ) : Type 0 where
  pub within : i < slots t
  pub tagged : TaggedTo t tags (i + 1)

pub record Compares (t tags : List ℕ) (i : ℕ) : Type 0 where
  pub within : i < slots t
  pub tagged : TaggedTo t tags (i + 1)
  pub used : marked (slot_at t i) ≡ true

-- R1, R2: what the check answers, with the tags of the table where it is sound
pub record Checks (how : Spelling) (t tags : List ℕ) (r : Checked) : Type 0 where
  pub answer : r ≡ checked_by how t
  pub opens : r ≡ Sound → OpenBy how t tags
