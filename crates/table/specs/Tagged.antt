-- The tags of a table, which whoever opens it keeps beside it: a number of 32 bits for each slot, compared before octets are. No rule speaks of them.
--     tag_at            that of a slot: the tag of its address; 0 where it is not used
--     TaggedTo t tags n the tags of the first n slots are there, in room for those of a whole table
--     Tagged            those of all slots
--     OpenBy            a sound table with its tags, by either rule
--     Open              by the one in force: what those who look through it or write to it ask for
--     Begins            what `begin` asks for
use Rattle.std.specs.Prelude.{ℕ, ◌<◌, ◌≤◌, ◌≡◌, true, cond, List, length, get_or}
use Rattle.address.specs.Address.{is_canonical}
use Rattle.slots.specs.Slot.{marked, address_of}
use Rattle.slots.specs.declared.Spelling.{Spelling}
use Rattle.slots.specs.declared.Spelling.TheVariants.{Canonical}
use Rattle.tags.specs.Tags.{tag_of}
use Rattle.table.specs.Table.{most_slots, slots, slot_at, checked_by}
use Rattle.table.specs.declared.Checked.TheVariants.{Sound}

-- the tag of slot k: that of its address, and 0 where it is not used
unfoldable pub tag_at : List ℕ → ℕ → ℕ
tag_at t k = cond (marked (slot_at t k)) (tag_of (address_of (slot_at t k))) 0

pub record TaggedTo (t tags : List ℕ) (n : ℕ) : Type 0 where
  pub few : n ≤ most_slots
  pub room : length tags ≡ most_slots
  pub each : (k : ℕ) → k < n → get_or tags k 0 ≡ tag_at t k

abbrev pub Tagged : List ℕ → List ℕ → Type 0
Tagged t tags = TaggedTo t tags (slots t)

pub record OpenBy (how : Spelling) (t tags : List ℕ) : Type 0 where
  pub sound : checked_by how t ≡ Sound
  pub tagged : Tagged t tags

abbrev pub Open : List ℕ → List ℕ → Type 0
Open t tags = OpenBy Canonical t tags

pub record Begins (t tags : List ℕ) (i : ℕ) (a : List ℕ) : Type 0 where
  pub within : i < slots t
  pub canonical : is_canonical a ≡ true
  pub tagged : Tagged t tags
