-- SCOPE, page T: one slot of 4,392 octets, what stands where in it, and when it is free or sound. The numbers of octets 2 to 39 are its head, by
-- the crate heads.
--     slot_length, address_room, key_limit, mark    the limits and the mark
--     address_at .. gossip_area     where the address and the keys stand
--     address_of .. gossip_key_of   the address and the keys
--     free, free_slot               every octet is zero; the slot that is so
--     marked, spelled, zero_padding     the conditions of a sound slot, besides those on its head
--     sound_by                      all of them; that the address stands in no lower slot is the table's to say
--     sound                         with the spelling of addresses that is in force
use Rattle.std.specs.Prelude.{ℕ, Bool, ◌&&◌, List, take, drop, replicate}
use Rattle.octets.specs.Octets.{ascii, same_octets, all_zero}
use Rattle.asciiaddress.specs.Ascii.{was_canonical}
use Rattle.address.specs.Address.{is_canonical}
use Rattle.heads.specs.declared.Head.{Head}
use Rattle.slots.specs.declared.Spelling.{Spelling}
use Rattle.slots.specs.declared.Spelling.TheVariants.{Canonical, Ascii}
use Rattle.heads.specs.Head.{part, address_length, direct_length, gossip_length, head_of, clear, seen_sound, direct_sound, gossip_sound}

-- T1: a slot has 4,392 octets
abbrev pub slot_length : ℕ
slot_length = 4392

-- T3: the address has room for 256 octets
abbrev pub address_room : ℕ
address_room = 256

-- T3, T8.6: a key has room for 2,048 octets, and at most as many
abbrev pub key_limit : ℕ
key_limit = 2048

-- T4: the two octets that open a used slot, 65 and 49
abbrev pub mark : List ℕ
mark = ascii "A1"

-- T3: where the room for the address begins
abbrev pub address_at : ℕ
address_at = 40

-- T3: where the room for the direct key begins
abbrev pub direct_at : ℕ
direct_at = 296

-- T3: where the room for the gossip key begins
abbrev pub gossip_at : ℕ
gossip_at = 2344

-- T3: octets 40 to 295, the room for the address
abbrev pub address_area : List ℕ → List ℕ
address_area s = part 40 295 s

-- T3: octets 296 to 2343, the room for the direct key
abbrev pub direct_area : List ℕ → List ℕ
direct_area s = part 296 2343 s

-- T3: octets 2344 to 4391, the room for the gossip key
abbrev pub gossip_area : List ℕ → List ℕ
gossip_area s = part 2344 4391 s

-- T8.2, T9: the address is as much of its room as its length says; a length beyond the room gives all of it
unfoldable pub address_of : List ℕ → List ℕ
address_of s = take (address_length s) (address_area s)

-- T3: the direct key is as much of its room as its length says
unfoldable pub direct_key_of : List ℕ → List ℕ
direct_key_of s = take (direct_length s) (direct_area s)

-- T3: the gossip key is as much of its room as its length says
unfoldable pub gossip_key_of : List ℕ → List ℕ
gossip_key_of s = take (gossip_length s) (gossip_area s)

-- T4: a slot is free when each of its octets is zero
unfoldable pub free : List ℕ → Bool
free s = all_zero s

-- T4: the one slot that is free
abbrev pub free_slot : List ℕ
free_slot = replicate slot_length 0

-- T4, T8.1: the slot opens with the mark
unfoldable pub marked : List ℕ → Bool
marked s = same_octets (part 0 1 s) mark

-- T8.2: an address is canonical. T16: or it was, by the old rule. Either way it is plain, so it ends at 254 octets (T9).
unfoldable pub spelled : Spelling → List ℕ → Bool
spelled Canonical a = is_canonical a
spelled Ascii a = was_canonical a

-- T8.4, T8.8: the upper bits and the unused octets are zero, and so is each room behind the length that the head gives
unfoldable pub zero_padding : Head → List ℕ → Bool
zero_padding n s =
    clear s
    && all_zero (drop n.address_length (address_area s))
    && all_zero (drop n.direct_length (direct_area s))
    && all_zero (drop n.gossip_length (gossip_area s))

-- T8, but for the lower slots (T8.3). No condition asks for a bit (T10), and none binds the gossip half to last seen (T11). T16: of the old rule
-- the spelling is all that differs.
unfoldable pub sound_by : Spelling → List ℕ → Bool
sound_by how s =
    marked s
    && spelled how (address_of s)
    && zero_padding (head_of s) s
    && seen_sound (head_of s)
    && direct_sound key_limit (head_of s)
    && gossip_sound key_limit (head_of s)

-- T8: the rule in force
abbrev pub sound : List ℕ → Bool
sound s = sound_by Canonical s
