-- SCOPE, C11: messages that are processed one after the other, and what is asked of them so that their order does not matter, in any form of table.
--     Form                 a form of table
--     after, fetched_in    the table after one message, and after all of a list
--     fits, all_fit_in     none of them is refused for room (8)
--     slot_form            the form of slots
--     fetched, all_fit     both of slots
--     Agreeing             two messages that bring an address something at one date bring it the same
--     SayTheSame           two tables of slots that hold the same of every address, and answer the same
-- What a call brings is a message, or none where the call is refused by 3 to 7: no table is asked for that.
use Rattle.std.specs.Prelude.{ℕ, ◌≡◌, Bool, true, ◌&&◌}
use mathlib.Core.List.{List, [], ◌∷◌, Memᴰ}
use Rattle.std.specs.Prelude.{Option, Some, None}
use Rattle.octets.specs.Octets.{AllOctets}
use Rattle.heads.specs.Entry.{Direct, Entry}
use Rattle.table.specs.Table.{checked}
use Rattle.table.specs.Entries.{entry_in}
use Rattle.table.specs.declared.Checked.TheVariants.{Sound}
use Rattle.update.specs.Message.{Message, GoodMessage, has_room}
use Rattle.delivery.specs.Delivery.{delivered}
use Rattle.recommend.specs.Recommending.{recommended_of, quick_of, target_key_of}
use Rattle.order.specs.Brought.{brings_direct, brings_gossip}

-- A form of table: which tables are sound, what holds of every message that is read for one, the entry of an address, whether there is room for a
-- message, and the table after it, which has the whole message or stays as it was (U2).
pub record Form (T : Type 0) : Type 1 where
  pub IsSound : T → Type 0
  pub IsGood : Message → Type 0
  pub entry : T → List ℕ → Option Entry
  pub room : T → Message → Bool
  pub delivered : T → Message → T

-- the table after what a call brings; a call that brings nothing leaves it
unfoldable pub after : {T : Type 0} → Form T → T → Option Message → T
after form t None = t
after form t (Some m) = form.delivered t m

-- the table after all that a list of calls brings, one after the other
unfoldable pub fetched_in : {T : Type 0} → Form T → T → List (Option Message) → T
fetched_in form t [] = t
fetched_in form t (m ∷ rest) = fetched_in form (after form t m) rest

-- C11: what a call brings is not refused with 8
unfoldable pub fits : {T : Type 0} → Form T → T → Option Message → Bool
fits form t None = true
fits form t (Some m) = form.room t m

-- C11: nothing that a list of calls brings is refused with 8, each with the table that it meets
unfoldable pub all_fit_in : {T : Type 0} → Form T → T → List (Option Message) → Bool
all_fit_in form t [] = true
all_fit_in form t (m ∷ rest) = fits form t m && all_fit_in form (after form t m) rest

-- a table of slots: octets that the check finds sound
pub record SoundSlots (t : List ℕ) : Type 0 where
  pub octets : AllOctets t
  pub sound : checked t ≡ Sound

-- the form of slots
abbrev pub slot_form : Form (List ℕ)
slot_form = record { IsSound = SoundSlots; IsGood = GoodMessage; entry = entry_in; room = has_room; delivered = delivered }

-- the table of slots after all that a list of calls brings
abbrev pub fetched : List ℕ → List (Option Message) → List ℕ
fetched t ms = fetched_in slot_form t ms

-- C11: there is room for all of it in a table of slots
abbrev pub all_fit : List ℕ → List (Option Message) → Bool
all_fit t ms = all_fit_in slot_form t ms

-- C11: two messages that bring an address a direct key at one effective date bring the same key and preference, and two that bring it gossip at one
-- effective date bring the same key
pub record Agree (m n : Message) : Type 0 where
  pub direct : (a : List ℕ) (c d : Direct) → brings_direct m a ≡ Some c → brings_direct n a ≡ Some d → m.date ≡ n.date
      → (c.key ≡ d.key) × (c.«mutual» ≡ d.«mutual»)
  pub gossip : (a key other : List ℕ) → brings_gossip m a ≡ Some key → brings_gossip n a ≡ Some other → m.date ≡ n.date → key ≡ other

-- C11: any two of these messages agree
unfoldable pub Agreeing : List (Option Message) → Type 0
Agreeing list = (m n : Message) → Memᴰ (Some m) list → Memᴰ (Some n) list → Agree m n

-- C11: every address has the same entry, every list of recipients gets the same advice with the same count, and every place in it the same key
-- octets
pub record SayTheSame (t u : List ℕ) : Type 0 where
  pub entry : (a : List ℕ) → entry_in t a ≡ entry_in u a
  pub recommendation : (recipients : List ℕ) (is_mutual reply : Bool) → recommended_of t recipients is_mutual reply ≡ recommended_of u recipients is_mutual reply
  pub quick : (recipients : List ℕ) (is_mutual reply : Bool) → quick_of t recipients is_mutual reply ≡ quick_of u recipients is_mutual reply
  pub target_key_same : (recipients : List ℕ) (place : ℕ) → target_key_of t recipients place ≡ target_key_of u recipients place
