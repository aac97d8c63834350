-- SCOPE, W12: how an address is shown.
--     same_form          a form that there is, and is this one
--     shown_by, shown    what is shown of a label's form
--     displayed          what is shown of an address
use Rattle.std.specs.Prelude.{ℕ, Bool, false, cond, ◌&&◌, List, ◌∷◌, ◌++◌, map, length, drop}
use Rattle.std.specs.Prelude.{Option, Some, None}
use Rattle.octets.specs.Octets.{octet, same_octets, starts_with}
use Rattle.utf8.specs.Utf8.{encoded}
use Rattle.punycode.specs.Punycode.{decode}
use Rattle.pieces.specs.Pieces.{pieces, before, behind, joined}
use Rattle.labels.specs.Labels.{opening, label_form, label}
use Rattle.address.specs.Address.{canonical}

-- W12: the form of a text, where it has one, is w
unfoldable pub same_form : List ℕ → Option (List ℕ) → Bool
same_form w None = false
same_form w (Some v) = same_octets v w

-- W12: code points, written in UTF-8, where they are a label with just the form w; else w
unfoldable pub shown_by : List ℕ → Option (List ℕ) → List ℕ
shown_by w None = w
shown_by w (Some ps) = cond (label (encoded ps) && same_form w (label_form (encoded ps))) (encoded ps) w

-- W12: what opens as a coded label does is decoded
unfoldable pub shown : List ℕ → List ℕ
shown w = cond (starts_with opening w) (shown_by w (decode (drop (length opening) w))) w

-- W12: the canonical form, with each label as it is shown
unfoldable pub displayed : List ℕ → List ℕ
displayed s =
    before (octet "@") (canonical s)
    ++ (octet "@" ∷ joined (octet ".") (map shown (pieces (octet ".") (behind (octet "@") (canonical s)))))
