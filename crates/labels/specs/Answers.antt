-- From L7 and L22 of SCOPE to what the code answers on labels.
--     judged             a label as it stands, without its form
--     code_of            the Punycode of code points, where there are any
--     fitting            a form that is not too long
--     label_of           the form of a label; what is no label has none
use Rattle.std.specs.Prelude.{ℕ, Bool, cond, ◌&&◌, List, leb, length}
use Rattle.std.specs.Prelude.{Option, Some, None}
use Rattle.octets.specs.Tests.{every}
use Rattle.punycode.specs.Punycode.{encode}
use Rattle.asciiaddress.specs.Ascii.{free_ends}
use Rattle.labels.specs.Labels.{label_octet, label_form, fits, label}

-- L7: what is asked of a label as it stands
unfoldable pub judged : List ℕ → Bool
judged s = leb 1 (length s) && every label_octet s && free_ends s

-- L22: what stands behind the opening
unfoldable pub code_of : Option (List ℕ) → Option (List ℕ)
code_of None = None
code_of (Some ps) = Some (encode ps)

-- L7: a form of more than 63 octets is none
unfoldable pub fitting : Option (List ℕ) → Option (List ℕ)
fitting o = cond (fits o) o None

-- L7, L22: what is no label has no form
unfoldable pub label_of : List ℕ → Option (List ℕ)
label_of s = cond (label s) (label_form s) None
