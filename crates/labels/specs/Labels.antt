-- SCOPE, L7, L22: labels in any script, and their forms in ASCII.
--     label_octet         what octets a label has
--     opening             what the form of a label opens with that is not ASCII
--     coded, label_form   the form of a label, where there is one
--     fits, label         what a label is
--     labelled            the form, or the text where there is none
use Rattle.std.specs.Prelude.{ℕ, Bool, false, cond, ◌&&◌, ◌||◌, List, ◌++◌, leb, length}
use Rattle.std.specs.Prelude.{Option, Some, None}
use Rattle.octets.specs.Octets.{ascii, lowered}
use Rattle.octets.specs.Options.{or_else}
use Rattle.octets.specs.Tests.{every}
use Rattle.utf8.specs.Utf8.{points}
use Rattle.utf8.specs.Lowering.{lower_points}
use Rattle.utf8.specs.Steps.{all_ascii}
use Rattle.punycode.specs.Punycode.{encode}
use Rattle.runs.specs.Runs.{belongs}
use Rattle.runs.specs.declared.Class.TheVariants.{Label}
use Rattle.asciiaddress.specs.Ascii.{longest_label, free_ends}

-- L7: an ASCII letter, a digit, a hyphen, or an octet of 128 or above
unfoldable pub label_octet : ℕ → Bool
label_octet x = belongs Label x || leb 128 x

-- L22: what tells a coded label from others
abbrev pub opening : List ℕ
opening = ascii "xn--"

-- L22: the Punycode of code points that are put into lower case (L21), behind the opening; an ill-formed label has none
unfoldable pub coded : Option (List ℕ) → Option (List ℕ)
coded None = None
coded (Some ps) = Some (opening ++ encode (lower_points ps))

-- L22: in ASCII the lower case is the form, whatever the label opens with
unfoldable pub label_form : List ℕ → Option (List ℕ)
label_form s = cond (all_ascii s) (Some (lowered s)) (coded (points s))

-- L7: the form ends at 63 octets
unfoldable pub fits : Option (List ℕ) → Bool
fits None = false
fits (Some w) = leb (length w) longest_label

-- L7: octets and ends are judged as they stand, and only the form is measured
unfoldable pub label : List ℕ → Bool
label s = leb 1 (length s) && every label_octet s && free_ends s && fits (label_form s)

-- L22: the form of a label
unfoldable pub labelled : List ℕ → List ℕ
labelled s = or_else s (label_form s)
