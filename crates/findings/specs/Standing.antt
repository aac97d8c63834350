-- SCOPE, C23, of blocks: what the writers left stands in them among whole fields. This is a claim, which proofs/Standing shows.
--     OwnStands         the outer block has an Autocrypt field that was written for the sender, and no other, nor gossip
--     GossipStand       the payload has gossip fields that were written for recipients, and no others
--     BlocksClean       then the answer is that there is no fault
use Rattle.std.specs.Prelude.{ℕ, ◌≡◌, Bool, true, false, List, [], ◌++◌, get_or, Ok}
use Rattle.std.specs.Prelude.{Some}
use Rattle.octets.specs.Options.{or_else}
use Rattle.runs.specs.Runs.{belongs}
use Rattle.runs.specs.declared.Class.TheVariants.{Blank}
use Rattle.names.specs.Names.{autocrypt as autocrypt_name, gossip as gossip_name}
use Rattle.header.specs.Header.{FieldText, fields, readable}
use Rattle.address.specs.Address.{canonical}
use Rattle.addresslist.specs.List.{among}
use Rattle.fields.specs.Fields.{fields_in, values_of}
use Rattle.fields.specs.declared.Kind.TheVariants.{Autocrypt, AutocryptGossip}
use Rattle.outer.specs.Outer.{sender_in, recipients_in}
use Rattle.lint.specs.Linting.{linted_of}
use Rattle.trip.specs.RoundTrip.{Lines, Holding, others}
use Rattle.findings.specs.Clean.{Left}

-- C23: what `write_autocrypt` left for an address whose canonical form is the sender; all other fields have other names
pub record OwnStands (sender outer : List ℕ) : Type 0 where
  pub address : List ℕ
  pub prefers : Bool
  pub octets : List ℕ
  pub left : Left autocrypt_name address prefers octets
  pub ours : canonical address ≡ sender
  pub stands : Holding outer octets
  pub alone : values_of Autocrypt (others stands) ≡ []
  pub without_gossip : values_of AutocryptGossip (others stands) ≡ []

-- C23: what `write_gossip` left for recipients, each time behind whole fields of other names, and no gossip behind the last
pub data GossipStand (recipients : List (List ℕ)) : List ℕ → Type 0 where
  last : (rest : List ℕ) → values_of AutocryptGossip (or_else [] (fields rest)) ≡ [] → GossipStand recipients rest
  next : (front : List ℕ) (fs : List FieldText) → Lines front fs → values_of AutocryptGossip fs ≡ []
      → (address octets : List ℕ) → Left gossip_name address false octets → among address recipients ≡ true
      → (rest : List ℕ) → belongs Blank (get_or rest 0 0) ≡ false → GossipStand recipients rest
      → GossipStand recipients (front ++ (octets ++ rest))

-- C23, O1: no fault is counted, however short the list is
abbrev pub BlocksClean : Type 0
BlocksClean =
    (outer payload sender : List ℕ) (room : ℕ) → readable outer ≡ true → readable payload ≡ true → sender_in (fields_in outer) ≡ Some sender
    → OwnStands sender outer → GossipStand (recipients_in (fields_in outer)) payload
    → linted_of outer payload room ≡ Ok 0
