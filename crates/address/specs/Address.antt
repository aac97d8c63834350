-- SCOPE, L6 to L8: plain addresses and their canonical form. Local parts, limits and the old rule (T16) are those of asciiaddress, labels and
-- their forms (L22) those of labels.
--     domain, domain_form       labels, and the forms of labels, with dots between them
--     address_form              the form of both sides
--     plain                     a plain address
--     canonical, is_canonical   its canonical form; a plain address that is its own
--     address_octet             what octets can stand in a plain address at all
use Rattle.std.specs.Prelude.{ℕ, Bool, cond, ◌&&◌, List, ◌∷◌, ◌++◌, map, leb, length}
use Rattle.octets.specs.Octets.{octet, same_octets}
use Rattle.octets.specs.Tests.{every}
use Rattle.utf8.specs.Lowering.{lower_text}
use Rattle.runs.specs.Runs.{belongs}
use Rattle.runs.specs.declared.Class.TheVariants.{Address}
use Rattle.pieces.specs.Pieces.{pieces, before, behind, joined}
use Rattle.asciiaddress.specs.Ascii.{longest, local_part}
use Rattle.labels.specs.Labels.{label, labelled}

-- L7: labels with a dot between two of them; one is enough
unfoldable pub domain : List ℕ → Bool
domain s = every label (pieces (octet ".") s)

-- L8: the forms of the labels, with the dots between them
unfoldable pub domain_form : List ℕ → List ℕ
domain_form s = joined (octet ".") (map labelled (pieces (octet ".") s))

-- L8: the local part in lower case (L21), and the form of the domain
unfoldable pub address_form : List ℕ → List ℕ
address_form s = lower_text (before (octet "@") s) ++ (octet "@" ∷ domain_form (behind (octet "@") s))

-- L6, L7: the first `@` parts local part and domain. A domain holds no other `@`, and a text without one has no domain. Only the form
-- is measured.
unfoldable pub plain : List ℕ → Bool
plain s = leb (length (address_form s)) longest && local_part (before (octet "@") s) && domain (behind (octet "@") s)

-- L8: the form of a plain address. No other text has one, and stands for itself.
unfoldable pub canonical : List ℕ → List ℕ
canonical s = cond (plain s) (address_form s) s

-- L8: a plain address that is its own canonical form. T9: so it ends at 254 octets, too.
unfoldable pub is_canonical : List ℕ → Bool
is_canonical s = plain s && same_octets (canonical s) s

-- L12: what both sides and the `@` between them are made of
abbrev pub address_octet : ℕ → Bool
address_octet x = belongs Address x
