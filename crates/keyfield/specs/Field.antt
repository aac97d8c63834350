-- SCOPE, page F: what the value of an Autocrypt or Autocrypt-Gossip field says, unfolded. How many octets a key may have is said by `limit`, which
-- is 2,048 for the slots of a table.
--     Said, said_of            what the whole value says, its key data still a text
--     limited, key_of          the key that key data stands for
--     Field, field_of          what a field says that is valid in form; none where it is spoiled
--     valid_for                what it says where it names the sender
--     chosen                   what values come to, in order, those left out that come to nothing
--     valid_fields, counted    the field that counts, among all Autocrypt fields of a message
use Rattle.std.specs.Prelude.{ℕ, Bool, false, cond, List, [], ◌∷◌, length}
use Rattle.std.specs.Prelude.{Option, Some, None}
use Rattle.octets.specs.Octets.{octet, same_octets, without_blanks}
use Rattle.octets.specs.Options.{only_one}
use Rattle.octets.specs.Tests.{one_to}
use Rattle.letters.specs.Base64.{decode}
use Rattle.pieces.specs.Pieces.{pieces}
use Rattle.address.specs.Address.{canonical}
use Rattle.attributes.specs.Attribute.{attribute_of}
use Rattle.attributes.specs.Step.{on, last, spoils, step}

-- what a value says: the address as it stands there, the preference, and the text of the key data
pub record Said : Type 0 where
  pub address : List ℕ
  pub is_mutual : Bool
  pub text : List ℕ

-- F7: no `prefer-encrypt` is no preference
abbrev pub mutual_by : Option Bool → Bool
mutual_by None = false
mutual_by (Some m) = m

-- F6: at the key data there must have been an address
unfoldable pub said_with : Option (List ℕ) → Option Bool → List ℕ → Option Said
said_with None preference v = None
said_with (Some a) preference v = Some (record { address = a; is_mutual = mutual_by preference; text = v })

-- F8: `keydata` is the last piece, and nothing stands behind it
unfoldable pub if_last : List (List ℕ) → Option Said → Option Said
if_last [] said = said
if_last (q ∷ more) said = None

-- F8: what is said by the pieces that are left. They are read in order up to the key data; without it the field is spoiled
unfoldable pub said_from : Option (List ℕ) → Option Bool → List (List ℕ) → Option Said
said_from address preference [] = None
said_from address preference (p ∷ rest) =
    elim (step address preference (attribute_of p)) [
      | on a m ↦ said_from a m rest
      | last v ↦ if_last rest (said_with address preference v)
      | spoils ↦ None
    ]

-- F1: the value is cut at every `;` into pieces
unfoldable pub said_of : List ℕ → Option Said
said_of s = said_from None None (pieces (octet ";") s)

-- F10: a key has at least 1 octet and at most as many as the limit
unfoldable pub limited : ℕ → Option (List ℕ) → Option (List ℕ)
limited limit None = None
limited limit (Some k) = cond (one_to limit (length k)) (Some k) None

-- F9, F10: key data is Base64 once its blanks are taken out, and the key has a length that is allowed
unfoldable pub key_of : ℕ → List ℕ → Option (List ℕ)
key_of limit v = limited limit (decode (without_blanks v))

-- F11: what a field says that is valid in form: an address in canonical form, a preference and a key
pub record Field : Type 0 where
  pub address : List ℕ
  pub is_mutual : Bool
  pub key : List ℕ

-- F11: the address in canonical form, the preference and the key, where key data gives one
unfoldable pub with_key : List ℕ → Bool → Option (List ℕ) → Option Field
with_key a m None = None
with_key a m (Some k) = Some (record { address = canonical a; is_mutual = m; key = k })

-- F11: the field by what its value says, none where that is nothing
unfoldable pub field_by : ℕ → Option Said → Option Field
field_by limit None = None
field_by limit (Some f) = with_key f.address f.is_mutual (key_of limit f.text)

-- F11: what a value says as a field; none where anything spoils it
unfoldable pub field_of : ℕ → List ℕ → Option Field
field_of limit s = field_by limit (said_of s)

-- F12: an Autocrypt field is valid for the sender, given in canonical form, where its address is the same
unfoldable pub naming : List ℕ → Option Field → Option Field
naming sender None = None
naming sender (Some f) = cond (same_octets f.address sender) (Some f) None

-- F12: the field of a value, where it is valid in form and names the sender
unfoldable pub valid_for : ℕ → List ℕ → List ℕ → Option Field
valid_for limit sender s = naming sender (field_of limit s)

-- what some values come to by a test, in order; those are left out that come to nothing
unfoldable pub chosen : {A : Type 0} → (List ℕ → Option A) → List (List ℕ) → List A
chosen f [] = []
chosen f (v ∷ rest) = elim (f v) [ None ↦ chosen f rest | Some x ↦ x ∷ chosen f rest ]

-- F13: the valid fields among these values, in order. Spoiled ones and those for other addresses are as though they were not there
unfoldable pub valid_fields : ℕ → List ℕ → List (List ℕ) → List Field
valid_fields limit sender values = chosen (valid_for limit sender) values

-- F13: of the values of all Autocrypt fields, in order, the one that is valid counts; with two or more none does, even if they are equal
unfoldable pub counted : ℕ → List (List ℕ) → List ℕ → Option Field
counted limit values sender = only_one (valid_fields limit sender values)
