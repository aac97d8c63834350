-- SCOPE, W7 to W10: what the listing program prints.
--     line                    columns as a line
--     line_of                 the line of an entry
--     slot_text, lines_from   the line of a slot, where it has one, and those of some slots
--     listing, printed        what is printed for a table by the answer of its check, and for any input
--     line_room, room         room that a line, and all that is printed, never exceeds
use Rattle.std.specs.Prelude.{ℕ, zero, suc, ◌+◌, ◌*◌, true, false, List, [], ◌∷◌, ◌++◌, leb, length}
use Rattle.std.specs.Prelude.{option_map}
use Rattle.octets.specs.Octets.{ascii}
use Rattle.octets.specs.Options.{or_else}
use Rattle.columns.specs.Columns.{decimal, time_text, preference_text}
use Rattle.slots.specs.Slot.{slot_length, address_room, marked}
use Rattle.heads.specs.Entry.{Entry, no_direct, no_gossip}
use Rattle.slots.specs.Entry.{entry_of}
use Rattle.table.specs.Table.{slots, slot_at, checked}
use Rattle.table.specs.declared.Checked.{Checked}
use Rattle.table.specs.declared.Checked.TheVariants.{Sound, Length, Slot}

-- W8: a first column and those behind it, with a space between two of them and LF behind the last
unfoldable pub line : List ℕ → List (List ℕ) → List ℕ
line f [] = f ++ ascii "\n"
line f (g ∷ rest) = f ++ (ascii " " ++ line g rest)

-- W8, W9: the seven columns of an entry. An absent key has length 0, and `none` also stands where there is no direct half
unfoldable pub line_of : Entry → List ℕ
line_of e =
    line e.address
    (time_text e.last_seen
    ∷ time_text (option_map (λ d. d.timestamp) e.direct)
    ∷ decimal (length (or_else no_direct e.direct).key)
    ∷ preference_text (or_else no_direct e.direct).«mutual»
    ∷ time_text (option_map (λ g. g.timestamp) e.gossip)
    ∷ decimal (length (or_else no_gossip e.gossip).key)
    ∷ [])

-- W8: a free slot has no line
unfoldable pub slot_text : List ℕ → List ℕ
slot_text s = elim (marked s) [ true ↦ line_of (entry_of s) | false ↦ [] ]

-- W8: the lines of the k slots from slot i on, in order
unfoldable pub lines_from : List ℕ → ℕ → ℕ → List ℕ
lines_from t i zero = []
lines_from t i (suc k) = slot_text (slot_at t i) ++ lines_from t (i + 1) k

-- W10: a refusal prints its number alone, and with 2 not the slot's index
unfoldable pub listing : Checked → List ℕ → List ℕ
listing Sound t = lines_from t 0 (slots t)
listing Length t = ascii "refused 1\n"
listing (Slot i) t = ascii "refused 2\n"

-- W7: the program takes 14 slots at most, which is fewer than the library does
abbrev pub most_listed : ℕ
most_listed = 14

-- W7: input that is longer than that is refused with 1, whatever it holds; no input is refused by the check
unfoldable pub printed : List ℕ → List ℕ
printed t = elim (leb (length t) (most_listed * slot_length)) [ true ↦ listing (checked t) t | false ↦ ascii "refused 1\n" ]

-- an address, five numbers of 64 bits, which have 20 digits at most, a preference, and an octet behind each of the seven columns
abbrev pub line_room : ℕ
line_room = address_room + 5 * 20 + 6 + 7

-- room for as many lines as are listed at most
abbrev pub room : ℕ
room = most_listed * line_room
