-- SCOPE, T15 and T3: what a table has of an address, as the code hands it out: the numbers of its entry, and where the entry's keys begin.
--     held_at   of a slot
--     held_of   of an address
use Rattle.std.specs.Prelude.{ℕ, ◌+◌, ◌*◌, List, Option, Some, None}
use Rattle.heads.specs.Head.{head_of}
use Rattle.slots.specs.Slot.{slot_length, direct_at, gossip_at}
use Rattle.table.specs.Table.{slot_at, found}
use Rattle.lookup.specs.declared.Held.{Held}

-- T3: in the table, the rooms for the two keys begin at octets 296 and 2344 of the slot
unfoldable pub held_at : List ℕ → Option ℕ → Option Held
held_at t (Some i) =
    Some (record { numbers = head_of (slot_at t i); direct = i * slot_length + direct_at; gossip = i * slot_length + gossip_at })
held_at t None = None

-- T15: what the table has of a canonical address
unfoldable pub held_of : List ℕ → List ℕ → Option Held
held_of t a = held_at t (found t a)
