-- The fields of a block, and those that are asked for (SCOPE, B11 and B12).
--     fields_in           the fields of a readable block
--     is_kind, values_of  the fields that are asked for
use Rattle.std.specs.Prelude.{ℕ, Bool, true, false, ◌||◌, List, [], ◌∷◌}
use Rattle.octets.specs.Octets.{ascii, same_name}
use Rattle.octets.specs.Options.{or_else}
use Rattle.names.specs.Names as names
use Rattle.header.specs.Header.{FieldText, fields_of}
use Rattle.fields.specs.declared.Kind.{Kind}
use Rattle.fields.specs.declared.Kind.TheVariants.{From, ContentType, Date, Autocrypt, Recipients, AutocryptGossip}

-- the fields of a block that is readable; one that is not has none
unfoldable pub fields_in : List ℕ → List FieldText
fields_in s = or_else [] (fields_of s)

-- B12: the fields that are asked for, by their names, which have no case (B11). G4: the recipients are in three kinds of fields.
unfoldable pub is_kind : Kind → List ℕ → Bool
is_kind From name = same_name name (ascii "From")
is_kind ContentType name = same_name name (ascii "Content-Type")
is_kind Date name = same_name name (ascii "Date")
is_kind Autocrypt name = same_name name names.autocrypt
is_kind Recipients name = same_name name (ascii "To") || same_name name (ascii "Cc") || same_name name (ascii "Reply-To")
is_kind AutocryptGossip name = same_name name names.gossip

-- B11: their values, in the order in which they stand; none hides another
unfoldable pub values_of : Kind → List FieldText → List (List ℕ)
values_of kind [] = []
values_of kind (f ∷ rest) = elim (is_kind kind f.name) [ true ↦ f.value ∷ values_of kind rest | false ↦ values_of kind rest ]
