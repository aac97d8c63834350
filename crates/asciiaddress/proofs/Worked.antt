-- Worked examples of L6, L7 and T16, by computing the definitions: a table of plain addresses with labels in ASCII, and one of
-- texts that are none.
-- Assumes nothing.
use Prim.Native.Nat.{ℕ}
use mathlib.Core.Path.{◌≡◌, refl}
use mathlib.Core.Bool.{true, not}
use mathlib.Core.List.{List, [], ◌∷◌, ◌++◌}
use lib.ListN.{length, replicate}
use Rattle.octets.specs.Octets.{ascii, octet, lower, lowered, same_octets}
use Rattle.octets.specs.Tests.{every}
use Rattle.runs.specs.Runs.{belongs}
use Rattle.pieces.specs.Pieces.{on_first, pieces, before, behind}
use Rattle.asciiaddress.specs.Ascii.{atom, local_part, free_ends, ascii_label, ascii_domain, ascii_plain, ascii_form, was_canonical}

-- an address with a local part of so many octets, one with a label of so many, and one with a last label of so many after 193 octets
local_part_of : ℕ → List ℕ
local_part_of n = replicate n (octet "a") ++ ascii "@b.example"

label_of : ℕ → List ℕ
label_of n = ascii "a@" ++ replicate n (octet "b")

address_of : ℕ → List ℕ
address_of n = replicate 64 (octet "a") ++ ascii "@" ++ replicate 63 (octet "b") ++ ascii "." ++ replicate 63 (octet "c") ++ ascii "." ++ replicate n (octet "d")

plains : List (List ℕ)
plains =
    ascii "a@b"
    ∷ ascii "1@2"
    ∷ ascii "A@B.example"
    ∷ ascii "a.b+c=d@e.f--g.example"
    ∷ ascii "!#$%&'*+-/=?^_`{|}~@b"
    ∷ (195 ∷ 164 ∷ ascii "@b")
    ∷ local_part_of 1
    ∷ local_part_of 64
    ∷ label_of 63
    ∷ address_of 61
    ∷ []

no_plains : List (List ℕ)
no_plains =
    []
    ∷ ascii "a"
    ∷ ascii "@"
    ∷ ascii "a@"
    ∷ ascii "@b"
    ∷ ascii "a@b@c"
    ∷ ascii ".a@b"
    ∷ ascii "a.@b"
    ∷ ascii "a..b@c"
    ∷ ascii "a@.b"
    ∷ ascii "a@b."
    ∷ ascii "a@b..c"
    ∷ ascii "a@-b"
    ∷ ascii "a@b-"
    ∷ ascii "a@b-.c"
    ∷ ascii "a@b_c"
    ∷ ascii "a@[1]"
    ∷ ascii " a@b"
    ∷ ascii "a@b "
    ∷ ascii "a b@c"
    ∷ ascii "<a@b>"
    ∷ ascii "\"a\"@b"
    ∷ (ascii "a@" ++ 195 ∷ 164 ∷ [])
    ∷ local_part_of 65
    ∷ label_of 0
    ∷ label_of 64
    ∷ address_of 62
    ∷ []

all_plain : every ascii_plain plains ≡ true
unfolding plains local_part_of label_of address_of ascii_plain local_part atom ascii_domain ascii_label belongs free_ends every on_first pieces before behind
all_plain = refl

none_plain : every (λ s. not (ascii_plain s)) no_plains ≡ true
unfolding no_plains local_part_of label_of address_of ascii_plain local_part atom ascii_domain ascii_label belongs free_ends every on_first pieces before behind
none_plain = refl

-- L6: so long is the longest of `plains`, and that of `no_plains` is an octet longer
long_254 : length (address_of 61) ≡ 254
unfolding address_of
long_254 = refl

-- T16: by the old rule a capital with an accent stays, too
once : was_canonical (0xC3 ∷ 0x84 ∷ ascii "@b") ≡ true
unfolding was_canonical ascii_form lowered lower same_octets ascii_plain local_part atom ascii_domain ascii_label belongs free_ends every on_first pieces before behind
once = refl
