-- From W12 of SCOPE to what the code writes.
--     text_of        code points as a text, where there are any
--     either_of      a text where it is a label with just this form, else the form
--     shown_labels   the labels of a domain as they are shown, with the dots between them
--     shown_form     what is shown of an address in canonical form
use Rattle.std.specs.Prelude.{ℕ, cond, ◌&&◌, List, ◌∷◌, ◌++◌, map}
use Rattle.std.specs.Prelude.{Option, Some, None}
use Rattle.octets.specs.Octets.{octet}
use Rattle.utf8.specs.Utf8.{encoded}
use Rattle.pieces.specs.Pieces.{pieces, before, behind, joined}
use Rattle.labels.specs.Labels.{label_form, label}
use Rattle.showing.specs.Showing.{same_form, shown}

-- L20: code points in UTF-8
unfoldable pub text_of : Option (List ℕ) → Option (List ℕ)
text_of None = None
text_of (Some ps) = Some (encoded ps)

-- W12: what is shown can be typed back
unfoldable pub either_of : List ℕ → List ℕ → List ℕ
either_of w t = cond (label t && same_form w (label_form t)) t w

-- W12: each label as it is shown
unfoldable pub shown_labels : List ℕ → List ℕ
shown_labels s = joined (octet ".") (map shown (pieces (octet ".") s))

-- W12: what stands before the `@` as it is, and what stands behind it
unfoldable pub shown_form : List ℕ → List ℕ
shown_form s = before (octet "@") s ++ (octet "@" ∷ shown_labels (behind (octet "@") s))
