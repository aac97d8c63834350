-- SCOPE, G5: whose key a gossip field brings. Whose an Autocrypt field brings is `valid_for` of `keyfield` (F12).
--     accepted_by, accepted_for   a gossip field that is accepted, by what it says and by its value
use Rattle.std.specs.Prelude.{ℕ, true, false, List}
use Rattle.std.specs.Prelude.{Option, Some, None}
use Rattle.addresslist.specs.List.{among}
use Rattle.keyfield.specs.Field.{Field, field_of}
use Rattle.update.specs.Message.{Gossiped}

-- G5: a field is accepted that is valid in form and whose address is among the recipients; G7: its preference is ignored
unfoldable pub accepted_by : List (List ℕ) → Option Field → Option Gossiped
accepted_by recipients None = None
accepted_by recipients (Some f) =
    elim (among f.address recipients) [ true ↦ Some (record { address = f.address; key = f.key }) | false ↦ None ]

-- G5, G6: what the value of a gossip field brings; nothing where the field is not accepted
unfoldable pub accepted_for : ℕ → List (List ℕ) → List ℕ → Option Gossiped
accepted_for limit recipients s = accepted_by recipients (field_of limit s)
