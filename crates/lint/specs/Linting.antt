-- SCOPE, O1, with refusals 4, 5, 7 and 12: what `lint` answers, and what it leaves in the lent list.
--     fault_room                      a list with room for so many faults is always long enough
--     list_rows                       row 12, for a list of so many numbers
--     mail_faults                     the faults of a mail
--     linting_rows, refused_linting   all rows
--     linted_of, left_by_linting      the answer, and what the list holds afterwards
--     FewFaults                       an answer has no more faults than that room is for
use Rattle.std.specs.Prelude.{ℕ, ◌*◌, ◌≤◌, List, [], ◌∷◌, leb, length, Result, Ok, Err}
use Rattle.std.specs.Prelude.{Option}
use Rattle.octets.specs.Options.{is_some, or_else}
use Rattle.octets.specs.Written.{onto}
use Rattle.refusals.specs.Rows.{Row, ◌unless◌, first_of, answered_by, unless_refused}
use Rattle.refusals.specs.declared.Refusal.{Refusal}
use Rattle.refusals.specs.declared.Refusal.TheVariants.{OuterBlock, Sender, PayloadBlock, OutputLength}
use Rattle.header.specs.Header.{readable}
use Rattle.fields.specs.Fields.{fields_in}
use Rattle.outer.specs.Outer.{sender_in, recipients_in}
use Rattle.faults.specs.Faults.{Fault, numbers_of}
use Rattle.lookover.specs.Looking.{faults_of}

-- O11: no two blocks have more faults, as the C header promises
abbrev pub fault_room : ℕ
fault_room = 32768

-- O3: the faults of a mail by its blocks: those about its sender (U3) and its recipients (G4)
unfoldable pub mail_faults : List ℕ → List ℕ → List Fault
mail_faults outer payload =
    faults_of (or_else [] (sender_in (fields_in outer))) (recipients_in (fields_in outer)) (fields_in outer) (fields_in payload)

-- R12: refused unless there are three numbers for each fault
unfoldable pub list_rows : List Fault → ℕ → List Row
list_rows faults room = (OutputLength unless leb (3 * length faults) room) ∷ []

-- R4, R5, R7, R12: refused unless the outer block is readable, there is just one sender, the payload is readable, and the list has room. A payload of
-- no octets is readable, and has no fields
unfoldable pub linting_rows : List ℕ → List ℕ → ℕ → List Row
linting_rows outer payload room =
    (OuterBlock unless readable outer)
    ∷ (Sender unless is_some (sender_in (fields_in outer)))
    ∷ (PayloadBlock unless readable payload)
    ∷ list_rows (mail_faults outer payload) room

-- O1, R31: the first of these rows that holds
unfoldable pub refused_linting : List ℕ → List ℕ → ℕ → Option Refusal
refused_linting outer payload room = first_of (linting_rows outer payload room)

-- O1: how many faults there are; a refusal has none
unfoldable pub linted_of : List ℕ → List ℕ → ℕ → Result ℕ Refusal
linted_of outer payload room = answered_by (refused_linting outer payload room) Err (Ok (length (mail_faults outer payload)))

-- O1, R32: three numbers for each fault at the front of the list, and behind them what was there; with a refusal the list stays as it was
unfoldable pub left_by_linting : List ℕ → List ℕ → List ℕ → List ℕ
left_by_linting outer payload list =
    unless_refused (refused_linting outer payload (length list)) list (onto (numbers_of (mail_faults outer payload)) list)

-- O11: an answer with no more faults than there ever are
unfoldable pub FewFaults : Result ℕ Refusal → Type 0
FewFaults (Ok n) = n ≤ fault_room
FewFaults (Err r) = Unit
