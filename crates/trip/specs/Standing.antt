-- SCOPE, C7 and C8: the entry of an address after a message that brings it a key.
--     direct_half, gossip_half  the halves of what a table holds of an address
--     HasDirect                 its direct half afterwards
--     HasGossip                 its gossip half afterwards
--     none_about                no gossip about an address
use Rattle.std.specs.Prelude.{ℕ, ◌≡◌, Bool, true, false, not, List}
use Rattle.std.specs.Prelude.{Option, Some, None}
use Rattle.octets.specs.Octets.{same_octets}
use Rattle.octets.specs.Tests.{every}
use Rattle.heads.specs.Entry.{Direct, Gossip, Entry}
use Rattle.update.specs.Update.{younger, younger_gossip}
use Rattle.update.specs.Message.{Gossiped, gossip_addresses}

-- the direct half of what a table holds of an address; without an entry there is none
unfoldable pub direct_half : Option Entry → Option Direct
direct_half None = None
direct_half (Some e) = e.direct

-- the gossip half of what a table holds of an address; without an entry there is none
unfoldable pub gossip_half : Option Entry → Option Gossip
gossip_half None = None
gossip_half (Some e) = e.gossip

-- C7: the address has an entry, and in it the direct half that is brought; if a younger one was there, that one is kept. `was` is what was held
-- before, `is` what is held afterwards
pub record HasDirect (was : Option Entry) (address : List ℕ) (brought : Direct) (is : Option Entry) : Type 0 where
  pub entry : Entry
  pub there : is ≡ Some entry
  pub addressed : entry.address ≡ address
  pub set : younger brought.timestamp (direct_half was) ≡ false → entry.direct ≡ Some brought
  pub kept : younger brought.timestamp (direct_half was) ≡ true → entry.direct ≡ direct_half was

-- C8: the address has an entry, and in it the gossip half that is brought; if a younger one was there, that one is kept
pub record HasGossip (was : Option Entry) (address : List ℕ) (brought : Gossip) (is : Option Entry) : Type 0 where
  pub entry : Entry
  pub there : is ≡ Some entry
  pub addressed : entry.address ≡ address
  pub set : younger_gossip brought.timestamp (gossip_half was) ≡ false → entry.gossip ≡ Some brought
  pub kept : younger_gossip brought.timestamp (gossip_half was) ≡ true → entry.gossip ≡ gossip_half was

-- C8: none of these accepted fields is about the address
unfoldable pub none_about : List ℕ → List Gossiped → Bool
none_about a gossip = every (λ b. not (same_octets b a)) (gossip_addresses gossip)
