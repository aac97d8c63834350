-- SCOPE, T7: an entry, where what is absent is `none`. How its address and keys are stored is not said here.
--     Direct, Gossip, Entry    the two halves, and the entry with its address and last seen
--     present                  what may be absent, by its bit
--     no_direct, no_gossip     what stands for a half that is absent
--     head_for                 the head of an entry
--     newcomer                 the entry of an address that is new
--     renamed .. with_gossip   what a writer changes in an entry
--     GoodKey .. Good          what a sound entry satisfies, with keys of at most `limit` octets
use Rattle.std.specs.Prelude.{ℕ, ◌≤◌, max, ◌≡◌, Bool, true, false, List, [], length}
use Rattle.std.specs.Prelude.{Option, Some, None}
use Rattle.octets.specs.Octets.{AllOctets}
use Rattle.octets.specs.Options.{is_some, or_else, IfSome}
use Rattle.address.specs.Address.{is_canonical}
use Rattle.heads.specs.declared.Head.{Head}
use Rattle.heads.specs.Head.{time_limit}

-- T7: the direct half: Autocrypt timestamp, key and preference
pub record Direct : Type 0 where
  pub timestamp : ℕ
  pub key : List ℕ
  pub «mutual» : Bool

-- T7: the gossip half: timestamp and key
pub record Gossip : Type 0 where
  pub timestamp : ℕ
  pub key : List ℕ

-- T7: an address, and what it may have besides; a half is there as a whole or not at all
pub record Entry : Type 0 where
  pub address : List ℕ
  pub last_seen : Option ℕ
  pub direct : Option Direct
  pub gossip : Option Gossip

-- T5, T6: whether something is there is told by its bit alone, since zero is as good a time as any other
abbrev pub present : {A : Type 0} → Bool → A → Option A
present true x = Some x
present false x = None

-- T8.7: what stands in a head for a direct half that is absent
abbrev pub no_direct : Direct
no_direct = record { timestamp = 0; key = []; «mutual» = false }

-- T8.7: what stands in a head for a gossip half that is absent
abbrev pub no_gossip : Gossip
no_gossip = record { timestamp = 0; key = [] }

-- T3, T5, T8.7: the numbers of an entry, zero for what is absent
unfoldable pub head_for : Entry → Head
head_for e =
    record {
      address_length = length e.address;
      seen = is_some e.last_seen;
      direct = is_some e.direct;
      gossip = is_some e.gossip;
      «mutual» = (or_else no_direct e.direct).«mutual»;
      last_seen = or_else 0 e.last_seen;
      timestamp = (or_else no_direct e.direct).timestamp;
      gossip_timestamp = (or_else no_gossip e.gossip).timestamp;
      direct_length = length (or_else no_direct e.direct).key;
      gossip_length = length (or_else no_gossip e.gossip).key;
    }

-- U4: what an address that has no entry yet begins with: itself, and nothing else
unfoldable pub newcomer : List ℕ → Entry
newcomer a = record { address = a; last_seen = None; direct = None; gossip = None }

-- T17: the address is replaced, and all else stays
unfoldable pub renamed : List ℕ → Entry → Entry
renamed a e = record { address = a; last_seen = e.last_seen; direct = e.direct; gossip = e.gossip }

-- U7: last seen becomes the date if it was absent or smaller
unfoldable pub seen_by : ℕ → Entry → Entry
seen_by date e =
    record { address = e.address; last_seen = Some (max (or_else 0 e.last_seen) date); direct = e.direct; gossip = e.gossip }

-- U8: the direct half is replaced, and all else stays
unfoldable pub with_direct : Direct → Entry → Entry
with_direct d e = record { address = e.address; last_seen = e.last_seen; direct = Some d; gossip = e.gossip }

-- G7: the gossip half is replaced. G8: last seen and the direct half stay.
unfoldable pub with_gossip : Gossip → Entry → Entry
with_gossip g e = record { address = e.address; last_seen = e.last_seen; direct = e.direct; gossip = Some g }

-- T8.6: a key has an octet at least, and so many at most
pub record GoodKey (limit : ℕ) (k : List ℕ) : Type 0 where
  pub some_octet : 1 ≤ length k
  pub most : length k ≤ limit
  pub octets : AllOctets k

-- T8.6, T8.10: a good key; beside the half there is last seen, at least as late as its timestamp
pub record GoodDirect (limit : ℕ) (seen : Option ℕ) (d : Direct) : Type 0 where
  pub key : GoodKey limit d.key
  pub was_seen : is_some seen ≡ true
  pub not_below : d.timestamp ≤ or_else 0 seen

-- T8.5, T8.6: a good key, and a timestamp within the largest time. T11: last seen does not bound it.
pub record GoodGossip (limit : ℕ) (g : Gossip) : Type 0 where
  pub key : GoodKey limit g.key
  pub in_range : g.timestamp ≤ time_limit

-- T8: what an entry of a sound slot satisfies by itself: a canonical address (T8.2), last seen within the largest time (T8.5), good
-- halves
pub record Good (limit : ℕ) (e : Entry) : Type 0 where
  pub canonical : is_canonical e.address ≡ true
  pub octets : AllOctets e.address
  pub seen : IfSome (λ t. t ≤ time_limit) e.last_seen
  pub direct : IfSome (GoodDirect limit e.last_seen) e.direct
  pub gossip : IfSome (GoodGossip limit) e.gossip
