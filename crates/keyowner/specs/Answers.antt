-- From the rules on whose key a field brings (F12, G5) to what the code answers and leaves in lent memory.
--     OwnAt, OwnAs                a field of the sender, its key in lent memory
--     Accepts                     a gossip field that may be accepted: what the roll of the recipients and lent memory have to be
--     AcceptedAt, AcceptedAs      one that is accepted, its address and its key in lent memory
use Rattle.std.specs.Prelude.{ℕ, ◌≤◌, ◌≡◌, true, List, length, take}
use Rattle.std.specs.Prelude.{Option, Some, None}
use Rattle.address.specs.Address.{is_canonical}
use Rattle.slots.specs.Slot.{address_room}
use Rattle.keyfield.specs.Field.{Field}
use Rattle.keyfield.specs.Answers.{Opens}
use Rattle.roll.specs.Index.{Indexed}
use Rattle.update.specs.Message.{Gossiped}
use Rattle.keyowner.specs.declared.OwnKey.{OwnKey}
use Rattle.keyowner.specs.declared.Accepted.{Accepted}

-- The field has this preference, and its key opens the lent memory.
pub record OwnAt (limit : ℕ) (sender : List ℕ) (field : Option Field) (key : List ℕ) (r : OwnKey) : Type 0 where
  pub is : field ≡ Some (record { address = sender; is_mutual = r.«mutual»; key = take r.length key })
  pub opens : Opens limit key r.length

-- the answer on a field of the sender: its preference and its key, or that it is none
unfoldable pub OwnAs : ℕ → List ℕ → Option Field → List ℕ → Option OwnKey → Type 0
OwnAs limit sender field key (Some r) = OwnAt limit sender field key r
OwnAs limit sender field key None = field ≡ None

-- The roll of the recipients has its index, and the two lent memories have room.
pub record Accepts (limit : ℕ) (recipients tags places address key : List ℕ) : Type 0 where
  pub index : Indexed recipients tags places
  pub room_for_address : address_room ≤ length address
  pub key_room : limit ≤ length key

-- The gossip has this address, in canonical form, and this key, which open the two lent memories.
pub record AcceptedAt (limit : ℕ) (gossip : Option Gossiped) (address key : List ℕ) (r : Accepted) : Type 0 where
  pub is : gossip ≡ Some (record { address = take r.address address; key = take r.key key })
  pub canonical : is_canonical (take r.address address) ≡ true
  pub address_within : r.address ≤ length address
  pub opens : Opens limit key r.key

-- the answer on a gossip field: its address and its key, or that it is not accepted
unfoldable pub AcceptedAs : ℕ → Option Gossiped → List ℕ → List ℕ → Option Accepted → Type 0
AcceptedAs limit gossip address key (Some r) = AcceptedAt limit gossip address key r
AcceptedAs limit gossip address key None = gossip ≡ None
