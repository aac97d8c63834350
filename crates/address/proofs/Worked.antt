-- Worked examples of L6 to L8 and L22, by computing the definitions: canonical forms, texts that are no plain addresses, how long forms grow, and
-- what is canonical.
-- Assumes nothing.
use Prim.Native.Nat.{ℕ, zero, suc}
use mathlib.Core.Path.{◌≡◌, refl}
use mathlib.Core.Bool.{true, not}
use mathlib.Core.List.{List, [], ◌∷◌, ◌++◌, map}
use lib.ListN.{length}
use Rattle.octets.specs.Octets.{ascii, lower, lowered, same_octets}
use Rattle.octets.specs.Options.{in_front, or_else}
use Rattle.octets.specs.Tests.{every}
use Rattle.utf8.specs.Utf8 as utf8
use Rattle.utf8.specs.Lowering as lowering
use Rattle.punycode.specs.Punycode as punycode
use Rattle.runs.specs.Runs.{belongs}
use Rattle.pieces.specs.Pieces.{on_first, pieces, before, behind, following, joined}
use Rattle.asciiaddress.specs.Ascii.{atom, local_part, free_ends}
use Rattle.labels.specs.Labels.{label_octet, coded, label_form, fits, label, labelled}
use Rattle.address.specs.Address.{domain, domain_form, address_form, plain, canonical, is_canonical, address_octet}

times : ℕ → List ℕ → List ℕ
times zero s = []
times (suc n) s = s ++ times n s

-- U+00E9, U+4ED6 and U+10FFFF
abbrev e : List ℕ
e = 0xC3 ∷ 0xA9 ∷ []

abbrev he : List ℕ
he = 0xE4 ∷ 0xBB ∷ 0x96 ∷ []

abbrev top : List ℕ
top = 0xF4 ∷ 0x8F ∷ 0xBF ∷ 0xBF ∷ []

-- L8, L22: the rows of their tables
abbrev written : List (List ℕ)
written =
    ascii "Bob.B@X.Example"
    ∷ (0xC3 ∷ 0x80 ∷ 0xC3 ∷ 0x9E ∷ 0xC3 ∷ 0x97 ∷ 0xC3 ∷ 0x9F ∷ ascii "@X")
    ∷ (0xCE ∷ 0x91 ∷ 0xCE ∷ 0xA9 ∷ 0xCE ∷ 0xAB ∷ ascii "@x")
    ∷ (0xD0 ∷ 0x90 ∷ 0xD0 ∷ 0xAF ∷ 0xD0 ∷ 0x80 ∷ 0xD0 ∷ 0x8F ∷ ascii "@x")
    ∷ (0xC4 ∷ 0x80 ∷ ascii "@x")
    ∷ (0xC3 ∷ 0x96 ∷ 0x2E ∷ 0xFF ∷ ascii "A@x")
    ∷ (ascii "A@B" ++ 0xC3 ∷ 0x9C ∷ ascii "CHER.Example")
    ∷ (0xC3 ∷ 0x96 ∷ 0x40 ∷ 0xC3 ∷ 0x96 ∷ [])
    ∷ ascii "a@XN--BCHER-KVA"
    ∷ (ascii "a@xn--" ++ e)
    ∷ (ascii "a@" ++ e ++ ascii "-" ++ e)
    ∷ []

abbrev wanted : List (List ℕ)
wanted =
    ascii "bob.b@x.example"
    ∷ (0xC3 ∷ 0xA0 ∷ 0xC3 ∷ 0xBE ∷ 0xC3 ∷ 0x97 ∷ 0xC3 ∷ 0x9F ∷ ascii "@x")
    ∷ (0xCE ∷ 0xB1 ∷ 0xCF ∷ 0x89 ∷ 0xCF ∷ 0x8B ∷ ascii "@x")
    ∷ (0xD0 ∷ 0xB0 ∷ 0xD1 ∷ 0x8F ∷ 0xD1 ∷ 0x90 ∷ 0xD1 ∷ 0x9F ∷ ascii "@x")
    ∷ (0xC4 ∷ 0x80 ∷ ascii "@x")
    ∷ (0xC3 ∷ 0x96 ∷ 0x2E ∷ 0xFF ∷ ascii "a@x")
    ∷ ascii "a@xn--bcher-kva.example"
    ∷ (0xC3 ∷ 0xB6 ∷ ascii "@xn--nda")
    ∷ ascii "a@xn--bcher-kva"
    ∷ ascii "a@xn--xn---epa"
    ∷ ascii "a@xn----9fab"
    ∷ []

-- L7, L22: hyphens at the ends, other octets, empty labels, and labels that are ill-formed; labels of 58 code points, and 32 labels of one
abbrev none : List (List ℕ)
none =
    (ascii "a@-" ++ e)
    ∷ (ascii "a@" ++ e ++ ascii "-")
    ∷ (ascii "a@" ++ e ++ ascii "_")
    ∷ (ascii "a@" ++ e ++ ascii "..b")
    ∷ (ascii "a@" ++ 0xC3 ∷ [])
    ∷ (ascii "a@" ++ 0xED ∷ 0xA0 ∷ 0x80 ∷ [])
    ∷ ascii "a@xn--"
    ∷ (ascii "a@" ++ times 58 e)
    ∷ (ascii "a@" ++ times 58 he)
    ∷ (ascii "a@" ++ times 31 (e ++ ascii ".") ++ e)
    ∷ []

-- L6, L7: the longest forms of a label and of an address
abbrev longest : List (List ℕ)
longest =
    (ascii "a@" ++ times 57 e)
    ∷ (ascii "a@" ++ times 57 he)
    ∷ (ascii "a@" ++ times 30 (e ++ ascii ".") ++ e)
    ∷ (ascii "a@" ++ times 55 top ++ ascii "." ++ times 55 top ++ ascii "." ++ times 55 top ++ ascii "." ++ times 52 top)
    ∷ []

-- L8: what is canonical, and what is not
abbrev canonicals : List (List ℕ)
canonicals = ascii "a@b.example" ∷ (0xC3 ∷ 0xA4 ∷ ascii "@b") ∷ (0xC3 ∷ 0x84 ∷ 0xFF ∷ ascii "@b") ∷ ascii "a@xn--nda" ∷ []

abbrev no_canonicals : List (List ℕ)
no_canonicals =
    ascii "a@B.example" ∷ (0xC3 ∷ 0x84 ∷ ascii "@b") ∷ (0xC3 ∷ 0x84 ∷ 0xFF ∷ ascii "A@b") ∷ (ascii "a@" ++ e) ∷ ascii "a@XN--NDA" ∷ []

rows : (map canonical written ≡ wanted)
    × (every (λ s. not (plain s)) none ≡ true)
    × (every plain longest ≡ true)
    × (map length (map canonical longest) ≡ 65 ∷ 65 ∷ 249 ∷ 254 ∷ [])
    × (every is_canonical canonicals ≡ true)
    × (every (λ s. not (is_canonical s)) no_canonicals ≡ true)
unfolding times label_octet coded label_form fits label labelled domain domain_form address_form plain canonical is_canonical atom local_part free_ends every on_first pieces before behind following joined belongs lower lowered same_octets in_front or_else utf8.lead_of utf8.tails utf8.points utf8.encoded_one utf8.encoded lowering.lower_point lowering.lower_points lowering.lower_text punycode.digit punycode.threshold punycode.scaled punycode.adapt punycode.integer punycode.least punycode.pass punycode.passes punycode.below punycode.delimited punycode.encode
rows = (refl, refl, refl, refl, refl, refl)

-- what else stands in no plain address, beside all below 33: what lists and fields put between addresses
apart : every (λ x. not (address_octet x)) (127 ∷ ascii ",:;<>\"()[]\\") ≡ true
unfolding every belongs
apart = refl
