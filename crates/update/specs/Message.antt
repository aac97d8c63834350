-- SCOPE, pages U and G, and R8: what a message brings, apart from how it is read, and what it does to a table.
--     Gossiped, Message     what a message brings
--     addresses_of          the addresses that it has something about
--     newcomers, has_room   refusal 8
--     applied               the table afterwards
--     entry_after           what that is to the entry of one address
--     GoodMessage           what holds of every message that is read
use Rattle.std.specs.Prelude.{ℕ, ◌≤◌, ◌≡◌, Bool, true, false, ◌||◌, List, [], ◌∷◌, ◌++◌, leb, length}
use Rattle.std.specs.Prelude.{Option, Some}
use Rattle.octets.specs.Octets.{same_octets, AllOctets}
use Rattle.octets.specs.Options.{or_else, IfSome}
use Rattle.address.specs.Address.{is_canonical}
use Rattle.addresslist.specs.List.{among}
use Rattle.heads.specs.Head.{time_limit}
use Rattle.heads.specs.Entry.{Direct, Entry, newcomer}
use Rattle.slots.specs.Entry.{GoodKey}
use Rattle.table.specs.Table.{found, is_at, free_count}
use Rattle.update.specs.Update.{updated, heard, put}

-- G5, G7: an accepted gossip field: an address and a key; its preference is ignored
pub record Gossiped : Type 0 where
  pub address : List ℕ
  pub key : List ℕ

-- U3, D14, U8, G5: the sender's canonical address, the effective date, which is one for the whole message, the direct half of the counted field, if
-- there is one, whose timestamp is the date, and the accepted gossip in order
pub record Message : Type 0 where
  pub sender : List ℕ
  pub date : ℕ
  pub direct : Option Direct
  pub gossip : List Gossiped

-- U4: the addresses of accepted gossip, in order
unfoldable pub gossip_addresses : List Gossiped → List (List ℕ)
gossip_addresses [] = []
gossip_addresses (g ∷ rest) = g.address ∷ gossip_addresses rest

-- U4, U5: the addresses that need an entry, the sender's first
unfoldable pub addresses_of : Message → List (List ℕ)
addresses_of m = m.sender ∷ gossip_addresses m.gossip

-- R8: the addresses without an entry, each counted once: `known` are those that were counted before
unfoldable pub newcomers : List ℕ → List (List ℕ) → List (List ℕ) → List (List ℕ)
newcomers t known [] = []
newcomers t known (a ∷ rest) =
    elim (is_at (found t a) || among a known) [
      | true ↦ newcomers t known rest
      | false ↦ a ∷ newcomers t (known ++ (a ∷ [])) rest
    ]

-- R8: there are at least as many free slots as new addresses
unfoldable pub has_room : List ℕ → Message → Bool
has_room t m = leb (length (newcomers t [] (addresses_of m))) (free_count t)

-- G5, G9: accepted gossip is taken field by field in order, so that the last for an address stands in the end; G10: an address takes its slot with
-- the first
unfoldable pub heard_all : ℕ → List Gossiped → List ℕ → List ℕ
heard_all date [] t = t
heard_all date (g ∷ rest) t = heard_all date rest (put t g.address (heard date g.key))

-- U4, U5: the sender's part comes first, whether or not the mail brings a key, and then the gossip
unfoldable pub applied : List ℕ → Message → List ℕ
applied t m = heard_all m.date m.gossip (put t m.sender (updated m.date m.direct))

-- U4: what a change to the entry of address a is to the entry of address b: none, unless they are the same; then the entry is begun where there was
-- none, and changed
unfoldable pub entry_put : List ℕ → (Entry → Entry) → List ℕ → Option Entry → Option Entry
entry_put a change b e = elim (same_octets a b) [ true ↦ Some (change (or_else (newcomer a) e)) | false ↦ e ]

-- G9: what accepted gossip is to the entry of address b, field by field in order
unfoldable pub entry_heard : ℕ → List Gossiped → List ℕ → Option Entry → Option Entry
entry_heard date [] b e = e
entry_heard date (g ∷ rest) b e = entry_heard date rest b (entry_put g.address (heard date g.key) b e)

-- U6, U7, U8, U9, G7, G8: what a message does to the entry of an address, wherever that stands: the sender's part if it is the sender, then the
-- gossip about it. An address that the message has nothing about keeps what it has
unfoldable pub entry_after : Message → List ℕ → Option Entry → Option Entry
entry_after m b e = entry_heard m.date m.gossip b (entry_put m.sender (updated m.date m.direct) b e)

-- U8, F10: the direct half of the counted field has a key of 1 to 2,048 octets, and the effective date for its timestamp
pub record GoodBrought (date : ℕ) (d : Direct) : Type 0 where
  pub dated : d.timestamp ≡ date
  pub key : GoodKey d.key

-- G5, F10: accepted gossip has a canonical address, and a key of 1 to 2,048 octets
pub record GoodGossiped (g : Gossiped) : Type 0 where
  pub canonical : is_canonical g.address ≡ true
  pub octets : AllOctets g.address
  pub key : GoodKey g.key

-- each of these is such gossip
unfoldable pub GoodGossipeds : List Gossiped → Type 0
GoodGossipeds [] = Unit
GoodGossipeds (g ∷ rest) = GoodGossiped g × GoodGossipeds rest

-- what holds of every message that is read from octets: the sender's address is canonical, the date is a time (D2), and what it brings is good
pub record GoodMessage (m : Message) : Type 0 where
  pub canonical : is_canonical m.sender ≡ true
  pub octets : AllOctets m.sender
  pub in_range : m.date ≤ time_limit
  pub direct : IfSome (GoodBrought m.date) m.direct
  pub gossip : GoodGossipeds m.gossip
