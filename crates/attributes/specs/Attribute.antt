-- SCOPE, F2 to F5: one piece of the value of an Autocrypt or Autocrypt-Gossip field.
--     trimmed_front, trimmed_back, trimmed   a name or a value without the blanks around it
--     name_of                                which attribute a name stands for
--     Attribute, attribute, attribute_of     what one piece says
use Rattle.std.specs.Prelude.{ℕ, true, false, cond, List, [], ◌∷◌, reverse}
use Rattle.octets.specs.Octets.{ascii, octet, same_octets, starts_with, blank}
use Rattle.octets.specs.Finding.{holds}
use Rattle.names.specs.Names as names
use Rattle.pieces.specs.Pieces.{before, behind}
use Rattle.attributes.specs.declared.Name.{Name}
use Rattle.attributes.specs.declared.Name.TheVariants.{Addr, PreferEncrypt, Keydata, Ignored, Unknown}

-- F2: blanks in front are taken off
unfoldable pub trimmed_front : List ℕ → List ℕ
trimmed_front [] = []
trimmed_front (x ∷ s) = elim (blank x) [ true ↦ trimmed_front s | false ↦ x ∷ s ]

-- F2: blanks behind are taken off
unfoldable pub trimmed_back : List ℕ → List ℕ
trimmed_back s = reverse (trimmed_front (reverse s))

-- F2: blanks at both ends are taken off, those inside stay
unfoldable pub trimmed : List ℕ → List ℕ
trimmed s = trimmed_back (trimmed_front s)

-- F4: names are compared octet by octet. F5: one that opens with `_` is ignored, and any other is unknown. F3: so is the empty one.
unfoldable pub name_of : List ℕ → Name
name_of s =
    cond (same_octets s names.addr) Addr
    (cond (same_octets s names.prefer_encrypt) PreferEncrypt
    (cond (same_octets s names.keydata) Keydata
    (cond (starts_with (ascii "_") s) Ignored
    Unknown)))

-- what one piece says: an attribute with its value, one that is ignored, or nothing that a field may hold
pub data Attribute : Type 0 where
  addr : List ℕ → Attribute
  prefer_encrypt : List ℕ → Attribute
  keydata : List ℕ → Attribute
  ignored : Attribute
  spoiling : Attribute

-- F5: a name that is ignored is so with its value; one that is unknown spoils the field
unfoldable pub attribute : Name → List ℕ → Attribute
attribute Addr v = addr v
attribute PreferEncrypt v = prefer_encrypt v
attribute Keydata v = keydata v
attribute Ignored v = ignored
attribute Unknown v = spoiling

-- F2: a piece is cut at its first `=` into name and value, and blanks are taken off both. F3: a piece without `=` spoils the field.
unfoldable pub attribute_of : List ℕ → Attribute
attribute_of p =
    elim (holds (octet "=") p) [
      | true ↦ attribute (name_of (trimmed (before (octet "=") p))) (trimmed (behind (octet "=") p))
      | false ↦ spoiling
    ]
