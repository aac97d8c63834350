-- What the count of newcomers (R8) asks for, and what it knows between two steps. The roll of those that are known to be new is `known`, its index
-- `numbers` and `spots`; `at` says how far they go.
--     Reads                     a block that can be read, and a text for its values
--     Asks                      whether an address is new
--     Rolls                     the roll of those that are known to be new, and the free slots
--     Meets, MetAs, RollsAs     one more address, what comes of it, and the roll then
--     Seats                     the gossip of a payload, beside those that are known to be new
--     Seeks                     a message, with a table, its sender, its payload and the roll of its recipients
use Rattle.std.specs.Prelude.{ℕ, ◌≤◌, ◌≡◌, true, List, length}
use Rattle.std.specs.Prelude.{Option, Some, None}
use Rattle.header.specs.Header.{readable}
use Rattle.octets.specs.Tests.{every}
use Rattle.address.specs.Address.{is_canonical}
use Rattle.slots.specs.Slot.{key_limit}
use Rattle.table.specs.Table.{most_slots, free_count}
use Rattle.table.specs.Tagged.{Tagged, Open}
use Rattle.roll.specs.Growing.{in_roll, Kept}
use Rattle.roll.specs.Index.{Indexed}
use Rattle.roll.specs.declared.Rolled.{Rolled}
use Rattle.room.specs.Room.{is_new, with_new}

pub record Reads (block text : List ℕ) : Type 0 where
  pub readably : readable block ≡ true
  pub room : length block ≤ length text

pub record Asks (t tags known numbers spots : List ℕ) (at : Rolled) (a : List ℕ) : Type 0 where
  pub tagged : Tagged t tags
  pub kept : Kept known numbers spots at
  pub canonical : is_canonical a ≡ true

-- Each of those in the roll takes one of the free slots; the memory has room for as many as there may be slots.
pub record Rolls (t : List ℕ) (free : ℕ) (known numbers spots : List ℕ) (at : Rolled) : Type 0 where
  pub kept : Kept known numbers spots at
  pub own : every is_canonical (in_roll at known) ≡ true
  pub counted : free ≡ free_count t
  pub shared : at.many ≤ free
  pub few : free ≤ most_slots
  pub octets : length known ≡ 65536
  pub wide : length numbers ≡ most_slots
  pub roomy : length spots ≡ most_slots

-- what is asked for where one more address is looked at
pub record Meets (t tags : List ℕ) (free : ℕ) (known numbers spots : List ℕ) (at : Rolled) (a : List ℕ) : Type 0 where
  pub tagged : Tagged t tags
  pub rolls : Rolls t free known numbers spots at
  pub canonical : is_canonical a ≡ true

-- it is new, and those that were known take all free slots
pub record IsTooMany (t : List ℕ) (old : List (List ℕ)) (a : List ℕ) : Type 0 where
  pub new : is_new t old a ≡ true
  pub full : length old ≡ free_count t

-- what comes of an address a, by those that were known to be new before it and by the roll as it is then
unfoldable pub MetAs : List ℕ → List (List ℕ) → List ℕ → List ℕ → Option Rolled → Type 0
MetAs t old a known (Some at) = in_roll at known ≡ with_new t old a
MetAs t old a known None = IsTooMany t old a

-- the roll as it is then, where there is a slot for the address
unfoldable pub RollsAs : List ℕ → ℕ → List ℕ → List ℕ → List ℕ → Option Rolled → Type 0
RollsAs t free known numbers spots (Some at) = Rolls t free known numbers spots at
RollsAs t free known numbers spots None = Unit

-- What is asked for where the gossip of a payload is counted: keys have at most `limit` octets, for which there is room, and the roll is as `meet`
-- leaves it.
pub record Seats (t tags : List ℕ) (free limit : ℕ) (payload recipients listed places text known numbers spots : List ℕ) (at : Rolled) : Type 0 where
  pub tagged : Tagged t tags
  pub rolls : RollsAs t free known numbers spots (Some at)
  pub reads : Reads payload text
  pub index : Indexed recipients listed places
  pub most : limit ≤ key_limit

pub record Seeks (t tags : List ℕ) (limit : ℕ) (sender payload recipients listed places text : List ℕ) : Type 0 where
  pub opened : Open t tags
  pub canonical : is_canonical sender ≡ true
  pub reads : Reads payload text
  pub index : Indexed recipients listed places
  pub most : limit ≤ key_limit
