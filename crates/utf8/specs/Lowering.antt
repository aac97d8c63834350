-- SCOPE, L21: lower case by code points.
--     lower_point, lower_points  a code point, and several
--     lower_text                 a text: by its code points, or by its ASCII letters alone where it is ill-formed
use Rattle.std.specs.Prelude.{ℕ, ◌+◌, cond, not, ◌&&◌, List, map, eqb}
use Rattle.std.specs.Prelude.{Some, None}
use Rattle.octets.specs.Octets.{lowered}
use Rattle.utf8.specs.Utf8.{between, points, encoded}

-- L21: ASCII; Latin with accents, but not the sign of multiplication; Greek, but not U+03A2, which is no letter; Cyrillic, of
-- which the first sixteen go further. Each other code point stays as it is.
unfoldable pub lower_point : ℕ → ℕ
lower_point p =
    cond (between 0x41 0x5A p) (p + 32)
    (cond (between 0xC0 0xDE p && not (eqb p 0xD7)) (p + 32)
    (cond (between 0x391 0x3AB p && not (eqb p 0x3A2)) (p + 32)
    (cond (between 0x410 0x42F p) (p + 32)
    (cond (between 0x400 0x40F p) (p + 80)
    p))))

-- L21: each code point by itself
unfoldable pub lower_points : List ℕ → List ℕ
lower_points ps = map lower_point ps

-- L21: by code points where the whole text is well formed (L20); else only its ASCII capitals become small, wherever it is wrong
unfoldable pub lower_text : List ℕ → List ℕ
lower_text s = elim (points s) [ None ↦ lowered s | Some ps ↦ encoded (lower_points ps) ]
