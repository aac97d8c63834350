-- SCOPE, L20: UTF-8. A text is a list of octets, and a well-formed one stands for code points.
--     between                a number from one to another
--     lead, lead_of          what the first octet of a code point tells
--     tails, points          the code points of a text, where it is well formed
--     well_formed            are there any?
--     encoded_one, encoded   the octets of a code point, and of several
--     scalar, scalars        a number that is a code point, and a list of such
use Rattle.std.specs.Prelude.{ℕ, zero, suc, ◌+◌, ◌-◌, ◌*◌, ◌/◌, ◌%◌, Bool, true, false, cond, ◌&&◌, ◌||◌, List, [], ◌∷◌, ◌++◌, leb, ltb, eqb}
use Rattle.std.specs.Prelude.{Option, Some, None}
use Rattle.octets.specs.Options.{is_some, in_front}
use Rattle.octets.specs.Tests.{every}
use Rattle.utf8.specs.declared.Lead.{Lead}

abbrev pub between : ℕ → ℕ → ℕ → Bool
between low high x = leb low x && leb x high

-- what a first octet tells: how many octets follow, from `low` to `high` the next of them, and its own part of the number
abbrev pub lead : ℕ → ℕ → ℕ → ℕ → Lead
lead following low high bits = record { following = following; low = low; high = high; bits = bits }

-- L20: how many octets follow a first octet, in which range the next of them lies, and the first octet's own part of the number.
-- The range is narrower behind E0 and F0, so that no code point has more octets than it needs; behind ED, so that there is no
-- surrogate; and behind F4, so that nothing lies above U+10FFFF. All other octets begin nothing.
unfoldable pub lead_of : ℕ → Option Lead
lead_of x =
    cond (leb x 0x7F) (Some (lead 0 0 0 x))
    (cond (between 0xC2 0xDF x) (Some (lead 1 0x80 0xBF (x - 0xC0)))
    (cond (eqb x 0xE0) (Some (lead 2 0xA0 0xBF 0))
    (cond (eqb x 0xED) (Some (lead 2 0x80 0x9F 0xD))
    (cond (between 0xE1 0xEF x) (Some (lead 2 0x80 0xBF (x - 0xE0)))
    (cond (eqb x 0xF0) (Some (lead 3 0x90 0xBF 0))
    (cond (between 0xF1 0xF3 x) (Some (lead 3 0x80 0xBF (x - 0xF0)))
    (cond (eqb x 0xF4) (Some (lead 3 0x80 0x8F 4))
    None)))))))

-- L20: `tails s n low high p` are the code points of s behind the start of one. That one is p so far, n of its octets are missing,
-- and the next of them lies from low to high. Each of them adds six bits.
unfoldable pub tails : List ℕ → ℕ → ℕ → ℕ → ℕ → Option (List ℕ)
tails [] zero low high p = Some (p ∷ [])
tails [] (suc n) low high p = None
tails (x ∷ s) (suc n) low high p = elim (between low high x) [ true ↦ tails s n 0x80 0xBF (p * 64 + (x - 0x80)) | false ↦ None ]
tails (x ∷ s) zero low high p = elim (lead_of x) [ None ↦ None | Some f ↦ in_front p (tails s f.following f.low f.high f.bits) ]

-- L20: the code points of a text, or none where it is ill-formed
unfoldable pub points : List ℕ → Option (List ℕ)
points [] = Some []
points (x ∷ s) = elim (lead_of x) [ None ↦ None | Some f ↦ tails s f.following f.low f.high f.bits ]

-- L20: a text that stands for code points
unfoldable pub well_formed : List ℕ → Bool
well_formed s = is_some (points s)

-- L20: one octet below U+0080, two below U+0800, three below U+10000, and four from there on
unfoldable pub encoded_one : ℕ → List ℕ
encoded_one p =
    cond (ltb p 0x80) (p ∷ [])
    (cond (ltb p 0x800) ((0xC0 + p / 64) ∷ (0x80 + p % 64) ∷ [])
    (cond (ltb p 0x10000) ((0xE0 + p / 4096) ∷ (0x80 + p / 64 % 64) ∷ (0x80 + p % 64) ∷ [])
    ((0xF0 + p / 262144) ∷ (0x80 + p / 4096 % 64) ∷ (0x80 + p / 64 % 64) ∷ (0x80 + p % 64) ∷ [])))

-- L20: the text of code points
unfoldable pub encoded : List ℕ → List ℕ
encoded [] = []
encoded (p ∷ ps) = encoded_one p ++ encoded ps

-- L20: no surrogate, and at most U+10FFFF
unfoldable pub scalar : ℕ → Bool
scalar p = ltb p 0xD800 || (leb 0xE000 p && ltb p 0x110000)

-- L20: each a code point
unfoldable pub scalars : List ℕ → Bool
scalars ps = every scalar ps
