-- SCOPE, C11 and G9: what a message brings one address.
--     brings_direct   the direct half of its counted field, if the address is its sender's
--     brings_gossip   the key of its last accepted gossip field for the address
use Rattle.std.specs.Prelude.{ℕ, true, false, List, [], ◌∷◌}
use Rattle.std.specs.Prelude.{Option, Some, None}
use Rattle.octets.specs.Octets.{same_octets}
use Rattle.heads.specs.Entry.{Direct}
use Rattle.update.specs.Message.{Gossiped, Message}

-- F12: a message brings a direct half to its sender alone
unfoldable pub brings_direct : Message → List ℕ → Option Direct
brings_direct m a = elim (same_octets m.sender a) [ true ↦ m.direct | false ↦ None ]

-- G9: the second of two keys, or the first where there is no second
unfoldable pub last_of : Option (List ℕ) → Option (List ℕ) → Option (List ℕ)
last_of first None = first
last_of first (Some key) = Some key

-- the key of a gossip field, if it is about the address
unfoldable pub key_about : Gossiped → List ℕ → Option (List ℕ)
key_about g a = elim (same_octets g.address a) [ true ↦ Some g.key | false ↦ None ]

-- G9: the key of the last of these fields that is about the address
unfoldable pub last_key : List Gossiped → List ℕ → Option (List ℕ)
last_key [] a = None
last_key (g ∷ rest) a = last_of (key_about g a) (last_key rest a)

-- G9: of all accepted fields about an address, the key of the last is what the message brings it
unfoldable pub brings_gossip : Message → List ℕ → Option (List ℕ)
brings_gossip m a = last_key m.gossip a
