-- The rows of W12, by computing the definitions: addresses, and how they are shown.
-- Assumes nothing.
use Prim.Native.Nat.{ℕ}
use mathlib.Core.Path.{◌≡◌, refl}
use mathlib.Core.List.{List, [], ◌∷◌, ◌++◌, map}
use Rattle.octets.specs.Octets.{ascii, same_octets, starts_with, lower, lowered}
use Rattle.octets.specs.Finding.{holds}
use Rattle.octets.specs.Options.{or_else, in_front}
use Rattle.octets.specs.Tests.{every}
use Rattle.utf8.specs.Utf8.{lead_of, tails, points, encoded_one, encoded, scalar}
use Rattle.utf8.specs.Lowering.{lower_point, lower_points, lower_text}
use Rattle.punycode.specs.Punycode.{digit, value, threshold, scaled, adapt, below, delimited, integer, least, pass, passes, encode, front, consumed, inserted, landed, run, decode}
use Rattle.runs.specs.Runs.{belongs}
use Rattle.pieces.specs.Pieces.{on_first, pieces, before, behind, following, joined}
use Rattle.asciiaddress.specs.Ascii.{atom, local_part, free_ends}
use Rattle.labels.specs.Labels.{label_octet, coded, label_form, fits, label, labelled}
use Rattle.address.specs.Address.{domain, domain_form, address_form, plain, canonical}
use Rattle.showing.specs.Showing.{same_form, shown_by, shown, displayed}

-- `a@bücher.example`
abbrev bücher : List ℕ
bücher = ascii "a@b" ++ 0xC3 ∷ 0xBC ∷ ascii "cher.example"

rows : List (List ℕ × List ℕ)
rows =
    (ascii "A@XN--BCHER-KVA.example", bücher)
    ∷ (bücher, bücher)
    ∷ (ascii "a@xn--a", ascii "a@" ++ 0xC2 ∷ 0x80 ∷ [])
    ∷ (ascii "a@xn--dca", ascii "a@xn--dca")
    ∷ (ascii "a@xn----bga", ascii "a@xn----bga")
    ∷ (ascii "a@xn--zzzzzzzz", ascii "a@xn--zzzzzzzz")
    ∷ []

rows_hold : map (λ (e : List ℕ × List ℕ). displayed e.0) rows ≡ map (λ (e : List ℕ × List ℕ). e.1) rows
unfolding rows displayed shown shown_by same_form canonical plain address_form domain_form domain label labelled label_form fits coded label_octet free_ends local_part atom belongs on_first pieces before behind following joined lower_text lower_points lower_point points tails lead_of in_front encoded encoded_one scalar digit value threshold scaled adapt below delimited integer least pass passes encode front consumed inserted landed run decode holds every or_else same_octets starts_with lower lowered
rows_hold = refl
