-- What is known between the stages of looking a mail over (SCOPE, O1). Only the crate's own contracts speak of it.
--     faults_by, faults_with        the faults of a mail: with or without that of no valid field, and as it is
--     listed_of, left_by_listing    what row 12 leaves to be answered and written
--     Roomy                         there is so much room for a value of the blocks
--     Walked                        the outer block is readable
--     Sent                          the sender is known, and the payload is readable
--     Readied                       the recipients are known
--     PassedAs                      what a pass over both blocks answers and leaves
use Rattle.std.specs.Prelude.{ℕ, ◌≤◌, min, ◌≡◌, Bool, true, List, ◌++◌, length, Result, Ok, Err}
use Rattle.std.specs.Prelude.{Some}
use Rattle.refusals.specs.declared.Refusal.{Refusal}
use Rattle.octets.specs.Written.{onto}
use Rattle.refusals.specs.Rows.{first_of, answered_by, unless_refused}
use Rattle.header.specs.Header.{limit, readable}
use Rattle.address.specs.Address.{is_canonical}
use Rattle.roll.specs.Roll.{unrolled}
use Rattle.roll.specs.Index.{Indexed}
use Rattle.fields.specs.Fields.{fields_in}
use Rattle.fields.specs.Spans.{SurveyAs}
use Rattle.fields.specs.declared.Survey.{Survey}
use Rattle.outer.specs.Outer.{sender_in}
use Rattle.faults.specs.Faults.{Fault, numbers_of}
use Rattle.faults.specs.Laying.{laid_at}
use Rattle.lookover.specs.Looking.{missing, faults_in, valid_behind, faults_of}
use Rattle.lookover.specs.declared.Looked.{Looked}
use Rattle.lookover.specs.declared.Side.TheVariants.{Outer, Payload}
use Rattle.lint.specs.Linting.{list_rows}
use Rattle.lint.specs.declared.Mail.{Mail}

-- the faults of both blocks, with that of a mail without a valid field where `valid` says so
unfoldable pub faults_by : Bool → Mail → List Fault
faults_by valid m =
    missing valid
    ++ (
    faults_in Outer m.sender.now (unrolled m.recipients.now) (fields_in m.outer.now)
    ++ faults_in Payload m.sender.now (unrolled m.recipients.now) (fields_in m.payload.now)
    )

-- the faults of both blocks
unfoldable pub faults_with : Mail → List Fault
faults_with m = faults_of m.sender.now (unrolled m.recipients.now) (fields_in m.outer.now) (fields_in m.payload.now)

-- R12: how many faults there are, where the list has room for them
unfoldable pub listed_of : List Fault → ℕ → Result ℕ Refusal
listed_of faults room = answered_by (first_of (list_rows faults room)) Err (Ok (length faults))

-- R12, R32: the faults at the front of the list, where it has room for them
unfoldable pub left_by_listing : List Fault → List ℕ → List ℕ
left_by_listing faults list = unless_refused (first_of (list_rows faults (length list))) list (onto (numbers_of faults) list)

pub record Roomy (outer payload : List ℕ) (room : ℕ) : Type 0 where
  pub most : room ≤ limit
  pub outer_fits : min (length outer) limit ≤ room
  pub payload_fits : min (length payload) limit ≤ room

pub record Walked (outer : List ℕ) (survey : Survey) (payload text : List ℕ) : Type 0 where
  pub surveyed : SurveyAs outer survey
  pub outer_fits : length outer ≤ length text
  pub payload_fits : min (length payload) limit ≤ length text

pub record Sent (outer : List ℕ) (survey : Survey) (payload sender text : List ℕ) : Type 0 where
  pub surveyed : SurveyAs outer survey
  pub sent : sender_in (fields_in outer) ≡ Some sender
  pub readably : readable payload ≡ true
  pub outer_fits : length outer ≤ length text
  pub payload_fits : length payload ≤ length text

pub record Readied (m : Mail) (text : List ℕ) : Type 0 where
  pub outer_readable : readable m.outer.now ≡ true
  pub payload_readable : readable m.payload.now ≡ true
  pub canonical : is_canonical m.sender.now ≡ true
  pub index : Indexed m.recipients.now m.tags.now m.places.now
  pub outer_fits : length m.outer.now ≤ length text
  pub payload_fits : length m.payload.now ≤ length text

-- a pass counts the faults, and writes them as far as the list goes
pub record PassedAs (m : Mail) (valid : Bool) (list out : List ℕ) (r : Looked) : Type 0 where
  pub ended : r.end ≡ length (numbers_of (faults_by valid m))
  pub laid : out ≡ laid_at list 0 (numbers_of (faults_by valid m))
  pub validly : r.valid ≡ valid_behind Outer m.sender.now (fields_in m.outer.now)
