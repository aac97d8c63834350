-- Worked examples: the vectors of RFC 4648, section 10, both ways (C15), and texts that F9 decides.
-- Assumes nothing.
use Prim.Native.Nat.{ℕ}
use mathlib.Core.Path.{◌≡◌, refl}
use mathlib.Core.List.{List, []}
use Rattle.std.specs.Prelude.{Some, None}
use Rattle.octets.specs.Octets.{ascii, blank, without_blanks}
use Rattle.octets.specs.Tests.{without}
use Rattle.letters.specs.Base64.{letter, sign_of, closed, grouped, before, at_end, follow, decode, encode}

-- a text and what it stands for, and the octets' own text
abbrev Vector : List ℕ → List ℕ → Type 0
Vector s t = (decode t ≡ Some s) × (encode s ≡ t)

-- C15: the seven vectors, from no octets to `foobar`
vectors : Vector [] []
    × Vector (ascii "f") (ascii "Zg==")
    × Vector (ascii "fo") (ascii "Zm8=")
    × Vector (ascii "foo") (ascii "Zm9v")
    × Vector (ascii "foob") (ascii "Zm9vYg==")
    × Vector (ascii "fooba") (ascii "Zm9vYmE=")
    × Vector (ascii "foobar") (ascii "Zm9vYmFy")
unfolding letter sign_of closed grouped before at_end follow decode encode
vectors = ((refl, refl), (refl, refl), (refl, refl), (refl, refl), (refl, refl), (refl, refl), (refl, refl))

-- F9, C14: `Zg==` stands for `f`; the unused bits of `Zh==` are not zero, and `Zg` lacks its pads
pub the_pad_is_needed : (decode (ascii "Zg==") ≡ Some (ascii "f")) × (decode (ascii "Zh==") ≡ None) × (decode (ascii "Zg") ≡ None)
unfolding letter sign_of closed grouped before at_end follow decode
the_pad_is_needed = (refl, refl, refl)

-- F9: pads stand only at the end, two at most and only where they are needed; unused bits are zero also in three letters and a pad
only_at_the_end : (decode (ascii "Zg==Zg==") ≡ None) × (decode (ascii "Z===") ≡ None) × (decode (ascii "Zm9v====") ≡ None) × (decode (ascii "Zm9=") ≡ None)
unfolding letter sign_of closed grouped before at_end follow decode
only_at_the_end = (refl, refl, refl, refl)

-- F9: blanks go out wherever they are, also between two pads. F10: a CR stays, and is no Base64.
blanks_go_out : (decode (without_blanks (ascii " Z\tg = \t=\t")) ≡ Some (ascii "f")) × (decode (without_blanks (ascii "Zg=\r=")) ≡ None)
unfolding letter sign_of closed grouped before at_end follow decode without blank
blanks_go_out = (refl, refl)
