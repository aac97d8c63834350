-- SCOPE, pages U and G: what a message does to an entry, and where in the table that is put.
--     Order, stays              which half stands, the stored one or what comes in
--     Half, taking              a half of an entry, and the entry once something came in for it
--     above                     a stored half stays that is younger than what comes in; an equal date replaces
--     younger, updated          the sender's entry
--     younger_gossip, heard     the entry of an address that the message has gossip about
--     begun                     the entry of an address begun where it has none
--     changed_at, put           the table with the entry of an address changed, begun where there was none
use Rattle.std.specs.Prelude.{ℕ, Bool, true, false, List, ltb}
use Rattle.std.specs.Prelude.{Option, Some, None}
use Rattle.heads.specs.Entry.{Direct, Gossip, Entry, newcomer, seen_by, with_direct, with_gossip}
use Rattle.slots.specs.Entry.{entry_of, slot_of}
use Rattle.table.specs.Table.{slot_at, with_slot, found, lowest_free}

-- An order says whether a stored half stays, where something of a date comes in, with a half or without one.
abbrev pub Order : Type 0 → Type 0
Order A = A → ℕ → Option A → Bool

-- Which half stands, the stored one or what comes in: where none is stored, none stays.
unfoldable pub stays : {A : Type 0} → Order A → Option A → ℕ → Option A → Bool
stays order None date brought = false
stays order (Some old) date brought = order old date brought

-- A half of an entry: the one that is stored, its timestamp, what a date alone does to the entry, and the entry with another half.
pub record Half (A : Type 0) : Type 0 where
  pub stored : Entry → Option A
  pub timestamp : A → ℕ
  pub dated : ℕ → Entry → Entry
  pub set : A → Entry → Entry

-- U9: what comes in without a half sets none, and clears none
abbrev pub with_half : {A : Type 0} → Half A → Option A → Entry → Entry
with_half half None e = e
with_half half (Some x) e = half.set x e

-- U6, G7: where the stored half stays, so does the entry; else the date and the half that comes in are taken
unfoldable pub taking : {A : Type 0} → Half A → Order A → ℕ → Option A → Entry → Entry
taking half order date brought e = elim (stays order (half.stored e) date brought) [ true ↦ e | false ↦ with_half half brought (half.dated date e) ]

-- U6, U8, G7: a stored half stays where its timestamp is above the date, whatever comes in; an equal date replaces
unfoldable pub above : {A : Type 0} → Half A → Order A
above half old date brought = ltb date (half.timestamp old)

-- U7, U8: a date alone raises last seen, and a counted field sets timestamp, key and preference of the direct half
abbrev pub the_direct : Half Direct
the_direct = record { stored = λ e. e.direct; timestamp = λ d. d.timestamp; dated = seen_by; set = with_direct }

-- G7, G8: gossip sets timestamp and key of the gossip half, and a date alone changes nothing
abbrev pub the_gossip : Half Gossip
the_gossip = record { stored = λ e. e.gossip; timestamp = λ g. g.timestamp; dated = λ date e. e; set = with_gossip }

-- U6: there is a direct half, and its timestamp is above the date
unfoldable pub younger : ℕ → Option Direct → Bool
younger date old = stays (above the_direct) old date None

-- U8, U9: the entry with the direct half of the counted field; without such a field it stays
unfoldable pub with_field : Option Direct → Entry → Entry
with_field brought e = with_half the_direct brought e

-- U6, U7, U8, U9: the sender's entry once a message came in; U10 has examples. The direct half that this brings, if any, has the date for its
-- timestamp
unfoldable pub updated : ℕ → Option Direct → Entry → Entry
updated date brought e = taking the_direct (above the_direct) date brought e

-- G7: there is a gossip half, and its timestamp is above the date
unfoldable pub younger_gossip : ℕ → Option Gossip → Bool
younger_gossip date old = stays (above the_gossip) old date None

-- G7, G8: the entry of an address that gossip is about: date and key become its gossip half, unless the stored timestamp is above the date
unfoldable pub heard : ℕ → List ℕ → Entry → Entry
heard date key e = taking the_gossip (above the_gossip) date (Some (record { timestamp = date; key = key })) e

-- U4: an empty entry of the address in the slot that was found. Without one the table stays: a message for which there are not enough is refused
-- before (R8)
unfoldable pub begun_at : Option ℕ → List ℕ → List ℕ → List ℕ
begun_at (Some i) t a = with_slot t i (slot_of (newcomer a))
begun_at None t a = t

-- U4: an address that has no entry gets the free slot with the lowest index; one that has an entry keeps its slot
unfoldable pub begun : List ℕ → List ℕ → List ℕ
begun t a = elim (found t a) [ Some i ↦ t | None ↦ begun_at (lowest_free t) t a ]

-- the table with the entry in a slot changed
unfoldable pub changed_at : Option ℕ → List ℕ → (Entry → Entry) → List ℕ
changed_at (Some i) t change = with_slot t i (slot_of (change (entry_of (slot_at t i))))
changed_at None t change = t

-- U4: the table with the entry of an address changed, in its own slot or in the lowest free one
unfoldable pub put : List ℕ → List ℕ → (Entry → Entry) → List ℕ
put t a change = changed_at (found (begun t a) a) (begun t a) change
