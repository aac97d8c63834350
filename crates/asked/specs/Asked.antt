-- SCOPE, O6 to O9: what is asked of the value of an Autocrypt or Autocrypt-Gossip field, whatever spoils it.
--     is_empty, last_of                 nothing is in a list; the last of some pieces
--     is_unknown, is_name, is_called    the name of a piece
--     value_of, values_called, saying   the values of the pieces of a name, in order
--     occurs                            there is such a piece
--     named_by, named                   the one address, in canonical form
--     is_base64, has_key_data           key data that is last, and Base64
use Rattle.std.specs.Prelude.{ℕ, Bool, true, false, not, cond, ◌&&◌, List, [], ◌∷◌}
use Rattle.std.specs.Prelude.{Option, Some, None}
use Rattle.octets.specs.Octets.{octet, same_octets, without_blanks}
use Rattle.octets.specs.Finding.{holds}
use Rattle.octets.specs.Options.{is_some, only_one}
use Rattle.letters.specs.Base64.{decode}
use Rattle.names.specs.Names as names
use Rattle.pieces.specs.Pieces.{pieces, before, behind}
use Rattle.address.specs.Address.{plain, canonical}
use Rattle.attributes.specs.Attribute.{trimmed, name_of}
use Rattle.attributes.specs.declared.Name.{Name}
use Rattle.attributes.specs.declared.Name.TheVariants as Names
use Rattle.asked.specs.declared.Called.{Called}
use Rattle.asked.specs.declared.Called.TheVariants.{Addr, PreferEncrypt, Keydata, Unknown}

-- is there nothing in a list?
unfoldable pub is_empty : {A : Type 0} → List A → Bool
is_empty [] = true
is_empty (x ∷ rest) = false

-- the last of some pieces
unfoldable pub last_of : List (List ℕ) → List ℕ
last_of [] = []
last_of (p ∷ []) = p
last_of (p ∷ q ∷ rest) = last_of (q ∷ rest)

-- O7: a name that F5 neither knows nor ignores
unfoldable pub is_other : Name → Bool
is_other Names.Addr = false
is_other Names.PreferEncrypt = false
is_other Names.Keydata = false
is_other Names.Ignored = false
is_other Names.Unknown = true

-- O7: the empty name is not unknown, it is none
unfoldable pub is_unknown : List ℕ → Bool
is_unknown n = not (is_empty n) && is_other (name_of n)

-- F4: names are compared octet by octet
unfoldable pub is_name : Called → List ℕ → Bool
is_name Addr n = same_octets n names.addr
is_name PreferEncrypt n = same_octets n names.prefer_encrypt
is_name Keydata n = same_octets n names.keydata
is_name Unknown n = is_unknown n

-- F2, O7: the name of a piece stands before its first `=`, without the blanks around it; a piece without `=` has none
unfoldable pub is_called : Called → List ℕ → Bool
is_called what p = holds (octet "=") p && is_name what (trimmed (before (octet "=") p))

-- F2: the value of a piece stands behind its first `=`, without the blanks around it
unfoldable pub value_of : List ℕ → List ℕ
value_of p = trimmed (behind (octet "=") p)

-- the values of the pieces that are called so, in order
unfoldable pub values_called : Called → List (List ℕ) → List (List ℕ)
values_called what [] = []
values_called what (p ∷ rest) =
    elim (is_called what p) [ true ↦ value_of p ∷ values_called what rest | false ↦ values_called what rest ]

-- F1: those of a whole value, which is cut at every `;`
unfoldable pub saying : Called → List ℕ → List (List ℕ)
saying what s = values_called what (pieces (octet ";") s)

-- O7, O9: some piece is called so
unfoldable pub occurs : Called → List ℕ → Bool
occurs what s = not (is_empty (saying what s))

-- O6: an address that is plain, in canonical form
unfoldable pub named_by : Option (List ℕ) → Option (List ℕ)
named_by None = None
named_by (Some a) = cond (plain a) (Some (canonical a)) None

-- O6: the address that a value names: it has one `addr` and no other, and this is plain
unfoldable pub named : List ℕ → Option (List ℕ)
named s = named_by (only_one (saying Addr s))

-- O8, F9: a text that is Base64, its blanks taken out; how many octets it stands for is not asked
unfoldable pub is_base64 : Option (List ℕ) → Bool
is_base64 None = false
is_base64 (Some v) = is_some (decode (without_blanks v))

-- O8: the last piece is a `keydata`, there is no other, and it is Base64
unfoldable pub has_key_data : List ℕ → Bool
has_key_data s = is_called Keydata (last_of (pieces (octet ";") s)) && is_base64 (only_one (saying Keydata s))
