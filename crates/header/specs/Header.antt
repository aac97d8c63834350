-- SCOPE, B1 to B11 and B13: header blocks. A text is a list of octets; where an octet is asked for behind its end 0 stands for
-- none, which is no line ending, no blank and no colon.
--     limit                     how long a block may be
--     of_ending, over           line endings; the end of a block
--     closes, raw_length        the end of a field, its continuations included
--     opens_field, name_of ..   a field at the beginning of a text
--     unfolded                  a value without its line endings
--     FieldText, fields         the fields of a block, its length aside
--     fields_of, readable       the fields of a block, or none where it is unreadable
--     is_report                 is a Content-Type a report?
-- Field names are compared by `same_name` of the crate octets (B11). What names are made of, and blanks, are classes of the crate
-- runs.
use Rattle.std.specs.Prelude.{ℕ, zero, suc, ◌+◌, Bool, true, false, not, ◌&&◌, ◌||◌, List, [], ◌∷◌, leb, ltb, eqb, length, get_or, take, drop}
use Rattle.std.specs.Prelude.{Option, Some, None}
use Rattle.octets.specs.Octets.{ascii, octet, cr, lf, same_name}
use Rattle.octets.specs.Options.{is_some, in_front}
use Rattle.runs.specs.Runs.{belongs, run_length}
use Rattle.runs.specs.declared.Class.TheVariants.{Name, Blank}

-- B1: the greatest length of a readable block
abbrev pub limit : ℕ
limit = 65536

-- B2: x, with y behind it, is an octet of a line ending. B3: a CR is one only directly before an LF. B4: so a CR that ends the
-- block is none.
unfoldable pub of_ending : ℕ → ℕ → Bool
of_ending x y = eqb x lf || (eqb x cr && eqb y lf)

-- B5: at the beginning of a line, is the block over? It is at an empty line, and with its last octet. B2: the last line needs no
-- ending.
unfoldable pub over : List ℕ → Bool
over [] = true
over (x ∷ s) = of_ending x (get_or s 0 0)

-- B6: a blank behind an LF continues the field; so a field closes with an LF that no blank follows
unfoldable pub closes : ℕ → ℕ → Bool
closes x y = eqb x lf && not (belongs Blank y)

-- B6, B10: how many octets of the text are the rest of a field, its line endings among them; any octet may be there
unfoldable pub raw_length : List ℕ → ℕ
raw_length [] = 0
raw_length (x ∷ s) = elim (closes x (get_or s 0 0)) [ true ↦ 1 | false ↦ suc (raw_length s) ]

-- B7: a name of one octet or more, and a colon directly behind it
unfoldable pub opens_field : List ℕ → Bool
opens_field s = ltb 0 (run_length Name s) && eqb (get_or s (run_length Name s) 0) (octet ":")

-- B7: the name of the field that opens a text
abbrev pub name_of : List ℕ → List ℕ
name_of s = take (run_length Name s) s

-- B7: what follows the first colon, since no name has a colon
abbrev pub after_colon : List ℕ → List ℕ
after_colon s = drop (run_length Name s + 1) s

-- B7, B10: the value of that field as it stands; it may be empty, and may hold further colons
abbrev pub raw_of : List ℕ → List ℕ
raw_of s = take (raw_length (after_colon s)) (after_colon s)

-- what follows that field
abbrev pub rest_of : List ℕ → List ℕ
rest_of s = drop (raw_length (after_colon s)) (after_colon s)

-- B9: all line endings go, and every other octet stays, the blank of a continuation too
unfoldable pub unfolded : List ℕ → List ℕ
unfolded [] = []
unfolded (x ∷ s) = elim (of_ending x (get_or s 0 0)) [ true ↦ unfolded s | false ↦ x ∷ unfolded s ]

-- a field: its name as it stands, and its unfolded value (B9)
pub record FieldText : Type 0 where
  pub name : List ℕ
  pub value : List ℕ

-- The fields of a text, of so many lines at most. B11: they keep their order, and several of one name are several. B5: nothing
-- behind the empty line is looked at. B8: a line that opens no field makes the block unreadable. B6: a continuation belongs to the
-- field above it; where there is none it opens no field, since no blank is of a name.
unfoldable pub fields_within : ℕ → List ℕ → Option (List FieldText)
fields_within zero s = Some []
fields_within (suc k) s =
    elim (over s) [
      | true ↦ Some []
      | false ↦ elim (opens_field s) [
        | true ↦ in_front (record { name = name_of s; value = unfolded (raw_of s) }) (fields_within k (rest_of s))
        | false ↦ None
      ]
    ]

-- The fields of a text of any length: it has no more lines than octets. The equations without the count are `fields_over`,
-- `fields_broken` and `fields_one` of proofs/Fields.antt.
unfoldable pub fields : List ℕ → Option (List FieldText)
fields s = fields_within (length s) s

-- B1: all octets of the argument count, those behind the empty line too. B5: no octets are a readable block without fields.
unfoldable pub fields_of : List ℕ → Option (List FieldText)
fields_of s = elim (leb (length s) limit) [ true ↦ fields s | false ↦ None ]

-- B1, B6, B8: a block is readable where its fields can be told
abbrev pub readable : List ℕ → Bool
readable s = is_some (fields_of s)

-- B13: directly behind the type comes the end of the value, a blank, `;` or `(`
unfoldable pub may_follow : List ℕ → Bool
may_follow [] = true
may_follow (x ∷ s) = belongs Blank x || eqb x (octet ";") || eqb x (octet "(")

-- B13: the type of a report
abbrev pub report : List ℕ
report = ascii "multipart/report"

-- B13: a text that opens with the type, in any case, and goes on as it may
unfoldable pub opens_report : List ℕ → Bool
opens_report s = same_name (take (length report) s) report && may_follow (drop (length report) s)

-- B13: a value that opens so behind any blanks; no comment is skipped
unfoldable pub is_report : List ℕ → Bool
is_report s = opens_report (drop (run_length Blank s) s)
