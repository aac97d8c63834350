-- From what key data stands for (SCOPE, F9) to what the code answers and leaves in lent memory.
--     decoded_of   the answer for a text that stands for these octets, or for none, with so much room
--     Decodes      what the lent memory holds after it: the octets over its beginning; after a refusal nothing is said
use Rattle.std.specs.Prelude.{ℕ, ◌≡◌, cond, List, leb, length}
use Rattle.std.specs.Prelude.{Option, Some, None}
use Rattle.octets.specs.Written.{onto}
use Rattle.letters.specs.Base64.{octets_in}

-- F9: octets are answered where the text is Base64 and they have room; a caller sets the limit of F10 by the room that it lends
unfoldable pub decoded_of : Option (List ℕ) → ℕ → Option ℕ
decoded_of None room = None
decoded_of (Some w) room = cond (leb (length w) room) (Some (length w)) None

unfoldable pub Decodes : Option (List ℕ) → List ℕ → List ℕ → Option ℕ → Type 0
Decodes o d out (Some n) = out ≡ onto (octets_in o) d
Decodes o d out None = Unit
