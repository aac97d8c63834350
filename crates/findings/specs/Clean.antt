-- SCOPE, C23: a mail whose fields we wrote has no faults. These are claims, which proofs/Clean shows.
--     Left               what a call of a writer left in front of the output, for an address
--     WrittenFor         the value of this field
--     OwnField           an Autocrypt field that was written for the sender
--     GossipField        a gossip field that was written for a recipient
--     Ours               the fields of both blocks are such
--     WrittenClean       then nothing is wrong
--     AnsweredClean      and the answer for such a mail is that it has no fault
use Rattle.std.specs.Prelude.{ℕ, ◌≡◌, Bool, true, false, List, [], ◌∷◌, length, take, Ok}
use Rattle.std.specs.Prelude.{Some}
use Rattle.octets.specs.Octets.{AllOctets}
use Rattle.octets.specs.Options.{Each}
use Rattle.names.specs.Names.{autocrypt as autocrypt_name, gossip as gossip_name}
use Rattle.header.specs.Header.{FieldText, fields, readable}
use Rattle.address.specs.Address.{canonical}
use Rattle.addresslist.specs.List.{among}
use Rattle.fields.specs.Fields.{fields_in, values_of}
use Rattle.fields.specs.declared.Kind.TheVariants.{Autocrypt, AutocryptGossip}
use Rattle.outer.specs.Outer.{sender_in, recipients_in}
use Rattle.write.specs.Writing.{written_of, left_by_writing}
use Rattle.lookover.specs.Looking.{faults_of}
use Rattle.lint.specs.Linting.{linted_of}

-- W1, W6: a writer answered how long its field is, and these octets are what it left in front of the output
pub record Left (name address : List ℕ) (m : Bool) (octets : List ℕ) : Type 0 where
  pub key : List ℕ
  pub key_octets : AllOctets key
  pub out : List ℕ
  pub long : ℕ
  pub done : Ok long ≡ written_of name address m key (length out)
  pub is : octets ≡ take long (left_by_writing name address m key out)

-- what a writer left is read as one field with this value
pub record WrittenFor (name address : List ℕ) (m : Bool) (v : List ℕ) : Type 0 where
  pub octets : List ℕ
  pub left : Left name address m octets
  pub reads : fields octets ≡ Some (record { name = name; value = v } ∷ [])

-- C23: `write_autocrypt` wrote it for an address whose canonical form is the sender, with or without a preference
pub record OwnField (sender v : List ℕ) : Type 0 where
  pub address : List ℕ
  pub prefers : Bool
  pub wrote : WrittenFor autocrypt_name address prefers v
  pub ours : canonical address ≡ sender

-- C23: `write_gossip` wrote it for an address that is a recipient
pub record GossipField (recipients : List (List ℕ)) (v : List ℕ) : Type 0 where
  pub address : List ℕ
  pub wrote : WrittenFor gossip_name address false v
  pub listed : among address recipients ≡ true

-- C23: one Autocrypt field and no gossip in the outer block, and gossip fields in the payload, as we write them. Other fields may stand among them
pub record Ours (sender : List ℕ) (recipients : List (List ℕ)) (outer payload : List FieldText) : Type 0 where
  pub value : List ℕ
  pub only : values_of Autocrypt outer ≡ value ∷ []
  pub own : OwnField sender value
  pub without_gossip : values_of AutocryptGossip outer ≡ []
  pub gossip : Each (GossipField recipients) (values_of AutocryptGossip payload)

-- C23
abbrev pub WrittenClean : Type 0
WrittenClean =
    (sender : List ℕ) (recipients : List (List ℕ)) (outer payload : List FieldText) → Ours sender recipients outer payload
    → faults_of sender recipients outer payload ≡ []

-- C23, O1: no fault is counted, however short the list is
abbrev pub AnsweredClean : Type 0
AnsweredClean =
    (outer payload sender : List ℕ) (room : ℕ) → readable outer ≡ true → readable payload ≡ true → sender_in (fields_in outer) ≡ Some sender
    → Ours sender (recipients_in (fields_in outer)) (fields_in outer) (fields_in payload)
    → linted_of outer payload room ≡ Ok 0
