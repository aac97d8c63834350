-- Blocks (B2 to B9) and values of a Content-Type (B13) that are worked out.
--     blocks     the fields of readable blocks
--     broken     blocks that are unreadable
--     reports    values that are reports
--     others     values that are not
-- Assumes nothing.
use Prim.Native.Nat.{ℕ}
use mathlib.Core.Path.{◌≡◌, refl}
use mathlib.Core.Bool.{true, false}
use mathlib.Core.List.{List, [], ◌∷◌, map}
use Rattle.std.specs.Prelude.{Some, None}
use lib.ListN.{replicate}
use Rattle.octets.specs.Octets.{ascii, octet, blank, same_name, same_octets, lowered, lower}
use Rattle.octets.specs.Options.{in_front}
use Rattle.runs.specs.Runs.{run, belongs}
use Rattle.header.specs.Header.{FieldText, fields, fields_of, fields_within, unfolded, over, of_ending, opens_field, raw_length, closes, is_report, opens_report, may_follow}

field : List ℕ → List ℕ → FieldText
field n v = record { name = n; value = v }

-- B9, B7, B2, B5: a folded field and one without a value, CRLF and LF mixed, and no field behind the empty line. B6: a line of
-- nothing but blanks continues. B3, B4: a CR that is not directly before an LF is content, also at the end. B7: both ends of 33 to
-- 126 may stand in a name, a colon in a value. B5: no octets, and an empty first line, give no fields.
blocks :
    map fields_of
    (ascii "To: a@b,\r\n\tc@d\nX:\n\r\nnot a field"
    ∷ ascii "A:b\n \nC:d"
    ∷ ascii "A:b\r\r\n"
    ∷ ascii "A:b\r"
    ∷ ascii "!~:b:c"
    ∷ []
    ∷ ascii "\n b"
    ∷ [])
    ≡ Some (field (ascii "To") (ascii " a@b,\tc@d") ∷ field (ascii "X") [] ∷ [])
    ∷ Some (field (ascii "A") (ascii "b ") ∷ field (ascii "C") (ascii "d") ∷ [])
    ∷ Some (field (ascii "A") (ascii "b\r") ∷ [])
    ∷ Some (field (ascii "A") (ascii "b\r") ∷ [])
    ∷ Some (field (ascii "!~") (ascii "b:c") ∷ [])
    ∷ Some []
    ∷ Some []
    ∷ []
unfolding field fields_of fields fields_within in_front unfolded over of_ending opens_field run raw_length belongs blank closes
blocks = refl

-- B6: a continuation with no field above. B4: a lone CR at the end, which is a line and no field. B8: a blank between name and
-- colon; no name; no colon; an octet above 126 in a name; a line from an mbox.
broken :
    map fields_of
    (ascii " A:b"
    ∷ ascii "A:b\r\n\r"
    ∷ ascii "A :b"
    ∷ ascii ":b"
    ∷ ascii "A:b\nC"
    ∷ (octet "A" ∷ 127 ∷ ascii ":b")
    ∷ ascii "From a@b Mon Jan 1"
    ∷ [])
    ≡ replicate 7 None
unfolding fields_of fields fields_within in_front unfolded over of_ending opens_field run raw_length belongs blank closes
broken = refl

-- B13: the end, `;`, `(` and a blank behind the type
reports :
    map is_report (ascii "multipart/report" ∷ ascii " \t Multipart/REPORT; report-type=x" ∷ ascii "multipart/report(c)" ∷ ascii "multipart/report\t" ∷ [])
    ≡ replicate 4 true
unfolding is_report opens_report may_follow run belongs blank same_name same_octets lowered lower
reports = refl

-- B13: a comment before the type, a blank in it, another type, a bare CR behind it, half of it
others :
    map is_report
    (ascii "(c) multipart/report" ∷ ascii "multipart /report" ∷ ascii "multipart/reports" ∷ ascii "multipart/report\r" ∷ ascii "multipart" ∷ [])
    ≡ replicate 5 false
unfolding is_report opens_report may_follow run belongs blank same_name same_octets lowered lower
others = refl
