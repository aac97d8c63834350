-- L20 and L21 as the code goes, an octet a turn. What these say of a text as a whole is proved from the definitions of Utf8
-- and Lowering, and nobody has to believe it.
--     all_ascii                   nothing but ASCII
--     second_of, first_of         the two octets of a code point below U+0800, each by the other
--     lower_at                    any octet, by the one before it and the one behind it
--     octetwise, small_at         so each octet of a text; the one at a place
--     moves, stays_behind         does an octet become another, by the one before it? Does none in a text?
--     formed_from, formed_after   is what is left well formed?
--     Follows                     what an octet says of what has to follow it
use Rattle.std.specs.Prelude.{ℕ, zero, suc, ◌+◌, ◌-◌, ◌≡◌, Bool, true, false, cond, not, ◌&&◌, ◌||◌, List, [], ◌∷◌, ltb, eqb, get_or}
use Rattle.std.specs.Prelude.{Option, Some, None}
use Rattle.octets.specs.Octets.{lower}
use Rattle.octets.specs.Tests.{every}
use Rattle.utf8.specs.Utf8.{between, lead_of}
use Rattle.utf8.specs.declared.Next.{Next}

-- L21: a text to which the rule for ASCII is enough
abbrev pub all_ascii : List ℕ → Bool
all_ascii s = every (λ x. ltb x 0x80) s

-- L21: what an octet y becomes, by the octet a before it. Greek from U+03A0 on, and Cyrillic but U+0410 to U+041F, go on behind
-- another first octet, 64 further: so y falls by 32, or for the first sixteen Cyrillic capitals rises by 16.
unfoldable pub second_of : ℕ → ℕ → ℕ
second_of a y =
    cond (eqb a 0xC3 && (between 0x80 0x9E y && not (eqb y 0x97))) (y + 32)
    (cond (eqb a 0xCE && between 0x91 0x9F y) (y + 32)
    (cond (eqb a 0xCE && (between 0xA0 0xAB y && not (eqb y 0xA2))) (y - 32)
    (cond (eqb a 0xD0 && between 0x80 0x8F y) (y + 16)
    (cond (eqb a 0xD0 && between 0x90 0x9F y) (y + 32)
    (cond (eqb a 0xD0 && between 0xA0 0xAF y) (y - 32)
    y)))))

-- L21: that first octet, by the octet y behind it
unfoldable pub first_of : ℕ → ℕ → ℕ
first_of x y =
    cond (eqb x 0xCE && (between 0xA0 0xAB y && not (eqb y 0xA2))) 0xCF
    (cond (eqb x 0xD0 && (between 0x80 0x8F y || between 0xA0 0xAF y)) 0xD1
    x)

-- L21: an octet below C0 never looks behind, and one from C0 on never looks before
unfoldable pub lower_at : ℕ → ℕ → ℕ → ℕ
lower_at a x b = cond (ltb x 0x80) (lower x) (cond (ltb x 0xC0) (second_of a x) (first_of x b))

-- L21: each octet of a text that stands behind the octet a
unfoldable pub octetwise : ℕ → List ℕ → List ℕ
octetwise a [] = []
octetwise a (x ∷ s) = lower_at a x (get_or s 0 0) ∷ octetwise x s

-- the octet at a place of `octetwise 0 s`
unfoldable pub small_at : List ℕ → ℕ → ℕ
small_at s i = lower_at (get_or (0 ∷ s) i 0) (get_or s i 0) (get_or s (i + 1) 0)

-- L21: an ASCII capital, or the second octet of a capital. A first octet becomes another only where its second one does, and
-- need not be looked at.
unfoldable pub moves : ℕ → ℕ → Bool
moves a x =
    between 0x41 0x5A x
    || ((between 0x80 0x9E x && not (eqb x 0x97)) && eqb a 0xC3)
    || ((between 0x91 0xAB x && not (eqb x 0xA2)) && eqb a 0xCE)
    || (between 0x80 0xAF x && eqb a 0xD0)

unfoldable pub stays_behind : ℕ → List ℕ → Bool
stays_behind a [] = true
stays_behind a (x ∷ s) = not (moves a x) && stays_behind x s

-- L20: `formed_from n low high s`: s is well formed behind the start of a code point of which n octets are missing, the next of
-- them from low to high
unfoldable pub formed_from : ℕ → ℕ → ℕ → List ℕ → Bool
formed_from zero low high [] = true
formed_from (suc n) low high [] = false
formed_from (suc n) low high (x ∷ s) = between low high x && formed_from n 0x80 0xBF s
formed_from zero low high (x ∷ s) = elim (lead_of x) [ None ↦ false | Some f ↦ formed_from f.following f.low f.high s ]

-- L20: the same of an answer
abbrev pub formed_after : Option Next → List ℕ → Bool
formed_after (Some next) s = formed_from next.missing next.low next.high s
formed_after None s = false

-- L20: what the octet x comes to, whatever stands behind it
pub record Follows (x : ℕ) (next : Next) (r : Option Next) : Type 0 where
  pub is : (rest : List ℕ) → formed_after (Some next) (x ∷ rest) ≡ formed_after r rest
