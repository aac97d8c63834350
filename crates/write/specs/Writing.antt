-- SCOPE, page W, W1 to W6, with refusals 9, 11 and 12: what the two writers answer, and what they leave in the output.
--     autocrypt_field, gossip_field  the two fields
--     field_room                     room that neither exceeds
--     writing_rows, refused_writing  rows 9, 11 and 12
--     written_of, left_by_writing    the answer, and what the output holds afterwards
use Rattle.std.specs.Prelude.{ℕ, Bool, false, List, [], ◌∷◌, leb, length, Result, Ok, Err}
use Rattle.std.specs.Prelude.{Option}
use Rattle.octets.specs.Written.{onto}
use Rattle.names.specs.Names.{autocrypt as autocrypt_name, gossip as gossip_name}
use Rattle.octets.specs.Tests.{one_to}
use Rattle.refusals.specs.Rows.{Row, ◌unless◌, first_of, answered_by, unless_refused}
use Rattle.refusals.specs.declared.Refusal.{Refusal}
use Rattle.refusals.specs.declared.Refusal.TheVariants.{OwnAddress, KeyLength, OutputLength}
use Rattle.address.specs.Address.{plain}
use Rattle.slots.specs.Slot.{key_limit}
use Rattle.writer.specs.Writing.{written}

-- W2, W3: the Autocrypt field for an address, a preference and a key
unfoldable pub autocrypt_field : List ℕ → Bool → List ℕ → List ℕ
autocrypt_field address is_mutual key = written autocrypt_name address is_mutual key

-- W3: the Autocrypt-Gossip field for an address and a key, which never has a preference
unfoldable pub gossip_field : List ℕ → List ℕ → List ℕ
gossip_field address key = written gossip_name address false key

-- W6: an output of 3,200 octets is always enough, as the C header promises: 254 octets are the most for an address, and 2,840 for the lines of a
-- key
abbrev pub field_room : ℕ
field_room = 3200

-- R9, R11, R12: refused unless the address is a plain one and nothing else, the key has 1 to 2,048 octets, and the output has room for the field
unfoldable pub writing_rows : List ℕ → List ℕ → List ℕ → ℕ → List Row
writing_rows address key field room =
    (OwnAddress unless plain address)
    ∷ (KeyLength unless one_to key_limit (length key))
    ∷ (OutputLength unless leb (length field) room)
    ∷ []

-- W1, R31: the first of these rows that holds
unfoldable pub refused_writing : List ℕ → List ℕ → List ℕ → ℕ → Option Refusal
refused_writing address key field room = first_of (writing_rows address key field room)

-- W1, R34: the length of the field; a refusal has none
unfoldable pub written_of : List ℕ → List ℕ → Bool → List ℕ → ℕ → Result ℕ Refusal
written_of name address is_mutual key room =
    let field = written name address is_mutual key in
    answered_by (refused_writing address key field room) Err (Ok (length field))

-- W6, R32: the field at the front of the output, and behind it what was there; with a refusal the output stays as it was
unfoldable pub left_by_writing : List ℕ → List ℕ → Bool → List ℕ → List ℕ → List ℕ
left_by_writing name address is_mutual key out =
    let field = written name address is_mutual key in
    unless_refused (refused_writing address key field (length out)) out (onto field out)
