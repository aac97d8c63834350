-- SCOPE, page T: the entry of a used slot, and the slot of an entry (T7).
--     entry_of                 the entry of a slot
--     padded, areas, slot_of   a text in its room, the three of an entry, and the whole slot
--     GoodKey .. Good          good entries, with the key limit of slots
use Rattle.std.specs.Prelude.{ℕ, ◌-◌, List, ◌++◌, length, replicate}
use Rattle.std.specs.Prelude.{Option}
use Rattle.octets.specs.Options.{or_else}
use Rattle.heads.specs.Head.{has_last_seen, has_direct, has_gossip, is_mutual, last_seen, timestamp, gossip_timestamp, head_octets}
use Rattle.heads.specs.Entry.{Direct, Gossip, Entry, present, no_direct, no_gossip, head_for}
use Rattle.heads.specs.Entry as heads
use Rattle.slots.specs.Slot.{mark, address_room, key_limit, address_of, direct_key_of, gossip_key_of}

-- T7, T5: the entry that a used slot holds; whether last seen and each half are there is told by the bits
unfoldable pub entry_of : List ℕ → Entry
entry_of s =
    record {
      address = address_of s;
      last_seen = present (has_last_seen s) (last_seen s);
      direct = present (has_direct s) (record { timestamp = timestamp s; key = direct_key_of s; «mutual» = is_mutual s });
      gossip = present (has_gossip s) (record { timestamp = gossip_timestamp s; key = gossip_key_of s });
    }

-- T8.8: a text at the front of its room, and zeros behind it
unfoldable pub padded : ℕ → List ℕ → List ℕ
padded room s = s ++ replicate (room - length s) 0

-- T3: octets 40 to 4391, the rooms for address, direct key and gossip key; T8.7: an absent key is one of no octets
unfoldable pub areas : Entry → List ℕ
areas e =
    padded address_room e.address
    ++ (padded key_limit (or_else no_direct e.direct).key ++ padded key_limit (or_else no_gossip e.gossip).key)

-- T3: the mark, the numbers of octets 2 to 39, and the three rooms
unfoldable pub slot_of : Entry → List ℕ
slot_of e = mark ++ (head_octets (head_for e) ++ areas e)

-- T8.6: a key of 1 to 2,048 octets
abbrev pub GoodKey : List ℕ → Type 0
GoodKey = heads.GoodKey key_limit

-- T8.6, T8.10: a direct half with such a key, last seen there and not below the timestamp
abbrev pub GoodDirect : Option ℕ → Direct → Type 0
GoodDirect = heads.GoodDirect key_limit

-- T8.5, T8.6: a gossip half with such a key, and a timestamp that is a time
abbrev pub GoodGossip : Gossip → Type 0
GoodGossip = heads.GoodGossip key_limit

-- T8: what the entry of a sound slot satisfies
abbrev pub Good : Entry → Type 0
Good = heads.Good key_limit
