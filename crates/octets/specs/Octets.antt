-- Octets and lists of them: texts in ASCII, blanks (L1 of SCOPE), equality, small letters (L8), names (B11), zeros.
--     ascii        the octets of a text that is written out
--     octet        the octet of one character that is written out
--     space .. lf  octets that have names
--     blank        a space or a tab
--     without_blanks   a list with its blanks taken out
--     AllOctets    each element is an octet
--     same_octets  the two lists are equal octet by octet, as a test
--     lower        the small letter of an ASCII capital; any other octet is its own
--     lowered      a list with each ASCII capital made small
--     same_name    equal but for the case of ASCII letters, as a test
--     starts_with  the first list opens the second
--     all_zero     nothing but zeros
use Rattle.std.specs.Prelude.{ℕ, ◌+◌, ◌<◌, Bool, true, false, cond, ◌&&◌, ◌||◌, List, [], ◌∷◌, map, leb, eqb, get_or}
use Prim.Native.Char.{Char, code}
use Prim.Native.String.{String, [] as no_more, ◌∷◌ as ◌then◌}
use Rattle.octets.specs.Tests.{without}

abbrev pub ascii : String → List ℕ
ascii no_more = []
ascii (c then rest) = code c ∷ ascii rest

abbrev pub octet : Char → ℕ
octet c = code c

abbrev pub space : ℕ
space = octet " "

abbrev pub tab : ℕ
tab = octet "\t"

abbrev pub cr : ℕ
cr = octet "\r"

abbrev pub lf : ℕ
lf = octet "\n"

-- L1: a space or a tab
unfoldable pub blank : ℕ → Bool
blank x = eqb x space || eqb x tab

-- F9: blanks go out of key data, wherever they are
abbrev pub without_blanks : List ℕ → List ℕ
without_blanks s = without blank s

abbrev pub AllOctets : List ℕ → Type 0
AllOctets s = (i : ℕ) → get_or s i 0 < 256

unfoldable pub same_octets : List ℕ → List ℕ → Bool
same_octets [] [] = true
same_octets [] (y ∷ t) = false
same_octets (x ∷ s) [] = false
same_octets (x ∷ s) (y ∷ t) = eqb x y && same_octets s t

-- L8: only an ASCII capital changes
unfoldable pub lower : ℕ → ℕ
lower x = cond (leb (octet "A") x && leb x (octet "Z")) (x + 32) x

-- L8: each ASCII capital of a list becomes small
unfoldable pub lowered : List ℕ → List ℕ
lowered s = map lower s

-- B11: the case of ASCII letters makes no difference
unfoldable pub same_name : List ℕ → List ℕ → Bool
same_name s t = same_octets (lowered s) (lowered t)

unfoldable pub starts_with : List ℕ → List ℕ → Bool
starts_with [] t = true
starts_with (x ∷ s) [] = false
starts_with (x ∷ s) (y ∷ t) = eqb x y && starts_with s t

unfoldable pub all_zero : List ℕ → Bool
all_zero [] = true
all_zero (x ∷ s) = eqb x 0 && all_zero s
