-- SCOPE, W11, with refusals 9 and 12: what `display` answers, and what it leaves in the output.
--     display_room                         room for every address shown
--     displaying_rows, refused_displaying  rows 9 and 12
--     displayed_of, left_by_displaying     the answer, and what the output holds afterwards
use Rattle.std.specs.Prelude.{ℕ, List, [], ◌∷◌, leb, length, Result, Ok, Err}
use Rattle.std.specs.Prelude.{Option}
use Rattle.octets.specs.Written.{onto}
use Rattle.refusals.specs.Rows.{Row, ◌unless◌, first_of, answered_by, unless_refused}
use Rattle.refusals.specs.declared.Refusal.{Refusal}
use Rattle.refusals.specs.declared.Refusal.TheVariants.{OwnAddress, OutputLength}
use Rattle.address.specs.Address.{plain}
use Rattle.showing.specs.Showing.{displayed}

-- W11: an output of 1,024 octets is always enough, as the C header promises
abbrev pub display_room : ℕ
display_room = 1024

-- R9, R12: refused unless the address is a plain one and nothing else, and the output has room for the address shown
unfoldable pub displaying_rows : List ℕ → ℕ → List Row
displaying_rows address room =
    (OwnAddress unless plain address) ∷ (OutputLength unless leb (length (displayed address)) room) ∷ []

-- W11, R31: the first of these rows that holds
unfoldable pub refused_displaying : List ℕ → ℕ → Option Refusal
refused_displaying address room = first_of (displaying_rows address room)

-- W11, R34: the length of the address shown; a refusal has none
unfoldable pub displayed_of : List ℕ → ℕ → Result ℕ Refusal
displayed_of address room = answered_by (refused_displaying address room) Err (Ok (length (displayed address)))

-- W11, R32: the address shown at the front of the output, and behind it what was there; with a refusal the output stays as it was
unfoldable pub left_by_displaying : List ℕ → List ℕ → List ℕ
left_by_displaying address out = unless_refused (refused_displaying address (length out)) out (onto (displayed address) out)
