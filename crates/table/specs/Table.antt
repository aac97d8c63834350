-- SCOPE, page T: a table of 1 to 256 slots, when it is sound, and where an address stands in it.
--     slots, slot_at           its slots: how many, and the one at an index
--     with_slot                the table with one slot replaced
--     unused                   a slot without the mark
--     has_address              a used slot whose address this is
--     lowest, how_many         the lowest of some slots that pass a test, and how many of them do
--     found                    where an address stands
--     lowest_free, free_count  the free slots
--     in_lower                 an address of a slot that stands in a lower one
--     right_by                 a slot that is free or sound, in its table
--     whole, judged_by, checked_by  refusals 1 and 2
--     right, checked           with the spelling of addresses that is in force
use Rattle.std.specs.Prelude.{ℕ, zero, suc, ◌+◌, ◌*◌, ◌/◌, ◌%◌, Bool, true, false, not, ◌&&◌, ◌||◌, List, leb, eqb, length, take, drop, Option, Some, None}
use Rattle.octets.specs.Octets.{same_octets}
use Rattle.octets.specs.Written.{put_at}
use Rattle.slots.specs.Slot.{slot_length, address_of, marked, free, sound_by}
use Rattle.slots.specs.declared.Spelling.{Spelling}
use Rattle.slots.specs.declared.Spelling.TheVariants.{Canonical}
use Rattle.table.specs.declared.Checked.{Checked}
use Rattle.table.specs.declared.Checked.TheVariants.{Sound, Length, Slot}

-- T1: a table has at most 256 slots
abbrev pub most_slots : ℕ
most_slots = 256

-- T1: how many whole slots there are
unfoldable pub slots : List ℕ → ℕ
slots t = length t / slot_length

-- T1: slots stand one behind the other and count from 0
unfoldable pub slot_at : List ℕ → ℕ → List ℕ
slot_at t i = take slot_length (drop (i * slot_length) t)

-- the table with the slot i replaced by s
unfoldable pub with_slot : List ℕ → ℕ → List ℕ → List ℕ
with_slot t i s = put_at t (i * slot_length) s

-- T4: a slot without the mark, which in a sound table is free
unfoldable pub unused : List ℕ → Bool
unused s = not (marked s)

-- T12, T15: a used slot whose stored address is a, octet by octet; addresses in slots are compared as they stand
unfoldable pub has_address : List ℕ → List ℕ → Bool
has_address a s = marked s && same_octets (address_of s) a

-- the lowest that passes the test, of the k slots from slot i on
unfoldable pub lowest : (List ℕ → Bool) → List ℕ → ℕ → ℕ → Option ℕ
lowest test t i zero = None
lowest test t i (suc k) = elim (test (slot_at t i)) [ true ↦ Some i | false ↦ lowest test t (i + 1) k ]

-- how many pass the test, of the k slots from slot i on
unfoldable pub how_many : (List ℕ → Bool) → List ℕ → ℕ → ℕ → ℕ
how_many test t i zero = 0
how_many test t i (suc k) = elim (test (slot_at t i)) [ true ↦ 1 + how_many test t (i + 1) k | false ↦ how_many test t (i + 1) k ]

-- T15: where the entry of a canonical address stands, if it has one
unfoldable pub found : List ℕ → List ℕ → Option ℕ
found t a = lowest (has_address a) t 0 (slots t)

-- U4: the free slot with the lowest index
unfoldable pub lowest_free : List ℕ → Option ℕ
lowest_free t = lowest unused t 0 (slots t)

-- R8: how many slots are free
unfoldable pub free_count : List ℕ → ℕ
free_count t = how_many unused t 0 (slots t)

-- whether there is such a slot
abbrev pub is_at : Option ℕ → Bool
is_at (Some i) = true
is_at None = false

-- T8.3: whether the address of slot i stands in a slot with a lower index. A broken one counts too, which makes no difference (T12)
unfoldable pub in_lower : List ℕ → ℕ → Bool
in_lower t i = is_at (lowest (has_address (address_of (slot_at t i))) t 0 i)

-- T4, T8, R2: slot i is free, or it is sound and its address stands in no lower slot. T16: sound by the rule in force, or by the old one
unfoldable pub right_by : Spelling → List ℕ → ℕ → Bool
right_by how t i = free (slot_at t i) || sound_by how (slot_at t i) && not (in_lower t i)

-- T1, R1: the length is that of 1 to 256 whole slots
unfoldable pub whole : List ℕ → Bool
whole t = eqb (length t % slot_length) 0 && leb 1 (slots t) && leb (slots t) most_slots

-- R2: the lowest of the k slots from slot i on that is neither free nor sound
unfoldable pub judged_by : Spelling → List ℕ → ℕ → ℕ → Checked
judged_by how t i zero = Sound
judged_by how t i (suc k) = elim (right_by how t i) [ true ↦ judged_by how t (i + 1) k | false ↦ Slot i ]

-- R1, R2: what the check finds; the slots are looked at where the length is that of whole slots. A table of zeros is sound (T13)
unfoldable pub checked_by : Spelling → List ℕ → Checked
checked_by how t = elim (whole t) [ true ↦ judged_by how t 0 (slots t) | false ↦ Length ]

-- T8: the rule in force
abbrev pub right : List ℕ → ℕ → Bool
right t i = right_by Canonical t i

abbrev pub checked : List ℕ → Checked
checked t = checked_by Canonical t
