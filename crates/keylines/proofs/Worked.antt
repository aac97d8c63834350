-- Worked examples of lines (W4).
-- Assumes nothing.
use mathlib.Core.Path.{◌≡◌, refl}
use mathlib.Core.List.{◌++◌}
use lib.ListN.{replicate}
use Rattle.octets.specs.Octets.{ascii}
use Rattle.letters.specs.Base64.{letter, encode}
use Rattle.keylines.specs.Lines.{laid, lines}

-- W2: the line of the key `foo`
one_line : lines (encode (ascii "foo")) ≡ ascii " Zm9v\r\n"
unfolding letter encode laid lines
one_line = refl

-- W4: a key of 57 octets fills one line, with no empty line behind it, and the 58th octet begins a second
a_whole_line : (lines (encode (replicate 57 0)) ≡ ascii " " ++ (replicate 76 65 ++ ascii "\r\n"))
    × (lines (encode (replicate 58 0)) ≡ ascii " " ++ (replicate 76 65 ++ ascii "\r\n AA==\r\n"))
unfolding letter encode laid lines
a_whole_line = (refl, refl)
