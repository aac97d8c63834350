-- Worked examples of L20 and L21, by computing the definitions: what texts stand for, what code points are written as, and the
-- lower case of code points and of texts.
-- Assumes nothing.
use Prim.Native.Nat.{ℕ}
use mathlib.Core.Path.{◌≡◌, refl}
use mathlib.Core.Bool.{true, not}
use mathlib.Core.List.{List, [], ◌∷◌, map}
use Rattle.std.specs.Prelude.{Some}
use Rattle.octets.specs.Octets.{ascii, lower, lowered}
use Rattle.octets.specs.Options.{is_some, in_front}
use Rattle.octets.specs.Tests.{every}
use Rattle.utf8.specs.Utf8.{lead_of, tails, points, well_formed, encoded_one, encoded}
use Rattle.utf8.specs.Lowering.{lower_point, lower_points, lower_text}

-- L20: code points of one, two, three and four octets, with the first and the last of each length
abbrev some_points : List ℕ
some_points = 0 ∷ 0x7F ∷ 0x80 ∷ 0x7FF ∷ 0x800 ∷ 0xD7FF ∷ 0xE000 ∷ 0xFFFF ∷ 0x10000 ∷ 0x10FFFF ∷ []

abbrev their_octets : List ℕ
their_octets =
    0 ∷ 0x7F ∷ 0xC2 ∷ 0x80 ∷ 0xDF ∷ 0xBF ∷ 0xE0 ∷ 0xA0 ∷ 0x80 ∷ 0xED ∷ 0x9F ∷ 0xBF ∷ 0xEE ∷ 0x80 ∷ 0x80 ∷ 0xEF ∷ 0xBF ∷ 0xBF ∷ 0xF0 ∷ 0x90 ∷ 0x80 ∷ 0x80 ∷ 0xF4 ∷ 0x8F ∷ 0xBF ∷ 0xBF ∷ []

read : points their_octets ≡ Some some_points
unfolding points tails lead_of in_front
read = refl

written : encoded some_points ≡ their_octets
unfolding encoded encoded_one
written = refl

-- L20: cut short, with a following octet alone, longer than needed, a surrogate, and above U+10FFFF
abbrev ill_formed : List (List ℕ)
ill_formed =
    (0xC3 ∷ [])
    ∷ (0xE2 ∷ 0x82 ∷ [])
    ∷ (0xF0 ∷ 0x9F ∷ 0x98 ∷ [])
    ∷ (0xC3 ∷ 0x41 ∷ [])
    ∷ (0x80 ∷ [])
    ∷ (0xFF ∷ [])
    ∷ (0xC0 ∷ 0x80 ∷ [])
    ∷ (0xC1 ∷ 0xBF ∷ [])
    ∷ (0xE0 ∷ 0x9F ∷ 0xBF ∷ [])
    ∷ (0xF0 ∷ 0x8F ∷ 0xBF ∷ 0xBF ∷ [])
    ∷ (0xED ∷ 0xA0 ∷ 0x80 ∷ [])
    ∷ (0xED ∷ 0xBF ∷ 0xBF ∷ [])
    ∷ (0xF4 ∷ 0x90 ∷ 0x80 ∷ 0x80 ∷ [])
    ∷ (0xF5 ∷ 0x80 ∷ 0x80 ∷ 0x80 ∷ [])
    ∷ []

none_formed : every (λ s. not (well_formed s)) ill_formed ≡ true
unfolding every well_formed is_some points tails lead_of in_front
none_formed = refl

-- L21: the first and the last of each range, and what is left out of it
mapped : lower_points (0x41 ∷ 0x5A ∷ 0xC0 ∷ 0xDE ∷ 0x391 ∷ 0x3AB ∷ 0x410 ∷ 0x42F ∷ 0x400 ∷ 0x40F ∷ [])
    ≡ 0x61 ∷ 0x7A ∷ 0xE0 ∷ 0xFE ∷ 0x3B1 ∷ 0x3CB ∷ 0x430 ∷ 0x44F ∷ 0x450 ∷ 0x45F ∷ []
unfolding lower_points lower_point
mapped = refl

abbrev others : List ℕ
others =
    0x40 ∷ 0x5B ∷ 0xBF ∷ 0xD7 ∷ 0xDF ∷ 0x100 ∷ 0x178 ∷ 0x386 ∷ 0x390 ∷ 0x3A2 ∷ 0x3AC ∷ 0x3FF ∷ 0x430 ∷ 0x45F ∷ 0x460 ∷ 0x1E9E ∷ 0x10400 ∷ []

kept : lower_points others ≡ others
unfolding lower_points lower_point
kept = refl

-- L21: texts in Latin, Greek and Cyrillic; letters of which L21 does not speak; and an ill-formed text, of which only the ASCII
-- capital becomes small
abbrev texts : List (List ℕ)
texts =
    ascii "Ab.C"
    ∷ (0xC3 ∷ 0x80 ∷ 0xC3 ∷ 0x9E ∷ 0xC3 ∷ 0x97 ∷ 0xC3 ∷ 0x9F ∷ [])
    ∷ (0xCE ∷ 0x91 ∷ 0xCE ∷ 0xA9 ∷ 0xCE ∷ 0xAB ∷ [])
    ∷ (0xD0 ∷ 0x90 ∷ 0xD0 ∷ 0xAF ∷ 0xD0 ∷ 0x80 ∷ 0xD0 ∷ 0x8F ∷ [])
    ∷ (0xC4 ∷ 0x80 ∷ [])
    ∷ (0xC3 ∷ 0x96 ∷ 0x2E ∷ 0xFF ∷ ascii "A")
    ∷ []

small : map lower_text texts
    ≡ ascii "ab.c"
    ∷ (0xC3 ∷ 0xA0 ∷ 0xC3 ∷ 0xBE ∷ 0xC3 ∷ 0x97 ∷ 0xC3 ∷ 0x9F ∷ [])
    ∷ (0xCE ∷ 0xB1 ∷ 0xCF ∷ 0x89 ∷ 0xCF ∷ 0x8B ∷ [])
    ∷ (0xD0 ∷ 0xB0 ∷ 0xD1 ∷ 0x8F ∷ 0xD1 ∷ 0x90 ∷ 0xD1 ∷ 0x9F ∷ [])
    ∷ (0xC4 ∷ 0x80 ∷ [])
    ∷ (0xC3 ∷ 0x96 ∷ 0x2E ∷ 0xFF ∷ ascii "a")
    ∷ []
unfolding lower_text lower_points lower_point points tails lead_of in_front encoded encoded_one lowered lower
small = refl
