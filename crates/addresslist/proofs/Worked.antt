-- Lists that are worked out: readable ones with their addresses (L9 to L12, L14, L17), unreadable ones (L2, L3, L11 to L15, L18),
-- and comments to depth 16 (L2).
-- Assumes nothing.
use Prim.Native.Nat.{ℕ}
use Prim.Native.String.{String}
use mathlib.Core.Path.{◌≡◌, refl}
use mathlib.Core.List.{List, [], ◌∷◌, ◌++◌, map}
use Rattle.std.specs.Prelude.{Some, None}
use lib.ListN.{replicate}
use Rattle.octets.specs.Octets.{ascii, octet, blank, lower, lowered}
use Rattle.octets.specs.Options.{in_front, or_else}
use Rattle.octets.specs.Finding.{holds}
use Rattle.octets.specs.Tests.{every}
use Rattle.utf8.specs.Utf8 as utf8
use Rattle.utf8.specs.Lowering as lowering
use Rattle.runs.specs.Runs.{belongs, run}
use Rattle.tokens.specs.Tokens.{control, kind_of, past, after_quote}
use Rattle.pieces.specs.Pieces.{on_first, pieces, before, behind, following, joined}
use Rattle.asciiaddress.specs.Ascii.{atom, local_part, free_ends}
use Rattle.labels.specs.Labels as labels
use Rattle.address.specs.Address.{domain, domain_form, address_form, plain}
use Rattle.grammar.specs.Grammar.{after_address, after}
use Rattle.addresslist.specs.List.{opening_of, run_token, quoted_token, token_at, first_token, listed_by, listed, addresses}

abbrev Readable : String → List String → Type 0
Readable s list = addresses (ascii s) ≡ Some (map ascii list)

abbrev Unread : String → Type 0
Unread s = addresses (ascii s) ≡ None

-- so many comments one inside the other, behind an address
abbrev nested : ℕ → List ℕ
nested n = ascii "a@b" ++ (replicate n (octet "(") ++ replicate n (octet ")"))

pub worked :
    Readable "a@b" ("a@b" ∷ [])
    × Readable "A <a@b>" ("a@b" ∷ [])
    × Readable "\"x y\" <a@b>, c@d" ("a@b" ∷ "c@d" ∷ [])
    × Readable "g: a@b, <c@d>;" ("a@b" ∷ "c@d" ∷ [])
    × Readable "g:;" []
    × Readable "g:;, a@b" ("a@b" ∷ [])
    × Readable "g: (c) ;" []
    × Readable ". <a@b>" ("a@b" ∷ [])
    × Readable "\"a\"\"b\"c<x@y>" ("x@y" ∷ [])
    × Readable " (c) < A.b@C.d-e (c) > " ("A.b@C.d-e" ∷ [])
    × Unread ""
    × Unread "(c)"
    × Unread "a@b,"
    × Unread ",a@b"
    × Unread "a@b,,c@d"
    × Unread "g: a@b,;"
    × Unread "a@b c@d"
    × Unread "Bob b@x"
    × Unread "<a@b> Bob"
    × Unread "<>"
    × Unread "<@r:a@b>"
    × Unread "g: h: a@b;;"
    × Unread "g: a@b"
    × Unread "g:; a@b"
    × Unread "a@b;"
    × Unread "a (c) @b"
    × Unread "a. b@c"
    × Unread "a@b."
    × Unread "a@b@c"
    × Unread "[x] <a@b>"
    × Unread "x@y <a@b>"
    × Unread "a@[x]"
    × Unread "\"a\"@b"
    × Unread "(c a@b"
    × Unread "\"c <a@b>"
    × (addresses (nested 16) ≡ Some (ascii "a@b" ∷ []))
    × (addresses (nested 17) ≡ None)
unfolding opening_of holds run_token quoted_token token_at first_token after_address after in_front listed_by listed addresses belongs atom local_part free_ends labels.label_octet labels.label_form labels.fits labels.label labels.labelled domain domain_form address_form plain every on_first pieces before behind run control blank kind_of past after_quote following joined or_else lowering.lower_text lowering.lower_points lowering.lower_point utf8.points utf8.tails utf8.lead_of utf8.encoded utf8.encoded_one lowered lower
worked = (refl, refl, refl, refl, refl, refl, refl, refl, refl, refl, refl, refl, refl, refl, refl, refl, refl, refl, refl, refl, refl, refl, refl, refl, refl, refl, refl, refl, refl, refl, refl, refl, refl, refl, refl, refl, refl)
