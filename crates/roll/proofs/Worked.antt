-- Rolls that are worked out: what is rolled and its index, what is read back, a rest that nothing ends, and lists. Assumes nothing.
use Prim.Native.Nat.{ℕ}
use Prim.Native.String.{String}
use mathlib.Core.Path.{◌≡◌, refl}
use mathlib.Core.Bool.{true, false}
use mathlib.Core.List.{List, [], ◌∷◌, ◌++◌, map}
use Rattle.octets.specs.Octets.{ascii, same_octets, lower, lowered, blank}
use Rattle.octets.specs.Options.{in_front, or_else}
use Rattle.octets.specs.Finding.{holds, length_before}
use Rattle.octets.specs.Tests.{every}
use Rattle.runs.specs.Runs.{belongs, run}
use Rattle.tokens.specs.Tokens.{control, kind_of, past, after_quote}
use Rattle.tags.specs.Tags.{tag_after, tag_of}
use Rattle.utf8.specs.Utf8 as utf8
use Rattle.utf8.specs.Lowering as lowering
use Rattle.pieces.specs.Pieces.{on_first, pieces, before, behind, from, following, joined}
use Rattle.asciiaddress.specs.Ascii.{atom, local_part, free_ends}
use Rattle.labels.specs.Labels as labels
use Rattle.address.specs.Address.{domain, domain_form, address_form, plain, canonical}
use Rattle.grammar.specs.Grammar.{after_address, after}
use Rattle.addresslist.specs.List.{opening_of, run_token, quoted_token, token_at, first_token, listed_by, listed, addresses, among}
use Rattle.roll.specs.Roll.{entry, rolled, lengthened, unrolled, listed_in}
use Rattle.roll.specs.Index.{tags_of, places_from, address_at}

abbrev two : List ℕ
two = ascii "a@b" ++ 0 ∷ ascii "C@de" ++ 0 ∷ []

abbrev pair : List (List ℕ)
pair = ascii "a@b" ∷ ascii "C@de" ∷ []

abbrev Lists : String → List String → Type 0
Lists s list = listed_in (ascii s) ≡ map ascii list

pub worked :
    (rolled [] ≡ [])
    × (rolled pair ≡ two)
    × (unrolled two ≡ pair)
    × (unrolled (ascii "a@b") ≡ [])
    × (unrolled (0 ∷ two) ≡ [] ∷ pair)
    × (unrolled (two ++ ascii "e@f") ≡ pair)
    × (tags_of pair ≡ tag_of (ascii "a@b") ∷ tag_of (ascii "c@de") ∷ [])
    × (places_from 0 pair ≡ 0 ∷ 4 ∷ [])
    × (address_at two 4 ≡ ascii "C@de")
    × (among (ascii "c@de") (unrolled two) ≡ true)
    × (among (ascii "c@d") (unrolled two) ≡ false)
    × (among (ascii "@b") (unrolled two) ≡ false)
    × Lists "A <a@b>, c@de" ("a@b" ∷ "c@de" ∷ [])
    × Lists "g:;" []
    × Lists "a@b," []
unfolding entry rolled lengthened unrolled listed_in tags_of places_from address_at tag_after tag_of length_before among or_else canonical from lowering.lower_text lowering.lower_points lowering.lower_point utf8.points utf8.tails utf8.lead_of utf8.encoded utf8.encoded_one same_octets lower lowered opening_of holds run_token quoted_token token_at first_token after_address after in_front listed_by listed addresses belongs atom local_part free_ends labels.label_octet labels.label_form labels.fits labels.label labels.labelled domain domain_form address_form plain every on_first pieces before behind run control blank kind_of past after_quote following joined
worked = (refl, refl, refl, refl, refl, refl, refl, refl, refl, refl, refl, refl, refl, refl, refl)
