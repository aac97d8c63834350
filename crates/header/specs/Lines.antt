-- A text by lines (SCOPE, B2), for code that does not look at each octet by itself.
--     line_length     how many octets come before the first LF, or before the end where there is none
--     text_length     how many come before the first octet of a line ending
use Rattle.std.specs.Prelude.{ℕ, suc, true, false, List, [], ◌∷◌, get_or}
use Rattle.octets.specs.Finding.{length_before}
use Rattle.octets.specs.Octets.{lf}
use Rattle.header.specs.Header.{of_ending}

abbrev pub line_length : List ℕ → ℕ
line_length s = length_before lf s

-- B2: a CR directly before the LF is left out
unfoldable pub text_length : List ℕ → ℕ
text_length [] = 0
text_length (x ∷ s) = elim (of_ending x (get_or s 0 0)) [ true ↦ 0 | false ↦ suc (text_length s) ]
