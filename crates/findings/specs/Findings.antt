-- SCOPE, C22 and C24: the claims about what `lint` finds, which proofs/Findings, Ordered, Listing and Counted show.
--     EachFault       what is found is what is wrong
--     EachListed      the same of two blocks, for the sender and the recipients that the outer one names
--     Listed          a fault is one of a list of numbers
--     AnswerLists     what `lint` lists is what is wrong
--     NoneExactly     nothing is found exactly where nothing is wrong
--     InOrder         it is in the order of O4
--     NothingTwice    and so nothing stands twice
--     Counts          without a fault of the kinds 1 and 2 one Autocrypt field counts
use Rattle.std.specs.Prelude.{ℕ, ◌+◌, ◌*◌, ◌<◌, ◌≡◌, ◌↔◌, true, false, List, [], ◌∷◌, ◌++◌, length, get_or, Ok}
use Rattle.std.specs.Prelude.{Some}
use Rattle.octets.specs.Options.{is_some}
use Rattle.header.specs.Header.{FieldText}
use Rattle.fields.specs.Fields.{fields_in}
use Rattle.slots.specs.Slot.{key_limit}
use Rattle.outer.specs.Outer.{sender_in, recipients_in}
use Rattle.keys.specs.Keys.{counted_in}
use Rattle.faults.specs.Faults.{Fault, no_valid, more_valid}
use Rattle.faults.specs.Found.{is_in, rising}
use Rattle.lookover.specs.Looking.{faults_of}
use Rattle.lint.specs.Linting.{mail_faults, linted_of, left_by_linting}
use Rattle.findings.specs.Wrong.{fault, Wrong}

-- C22: a block, a place and a kind are found exactly when O3 says that fault
abbrev pub EachFault : Type 0
EachFault =
    (sender : List ℕ) (recipients : List (List ℕ)) (outer payload : List FieldText) (x : Fault)
    → (is_in x (faults_of sender recipients outer payload) ≡ true) ↔ Wrong sender recipients outer payload x

-- C22, O6: for the sender (U3) and the recipients (G4) of the mail; From makes nobody a recipient
abbrev pub EachListed : Type 0
EachListed =
    (outer payload sender : List ℕ) (x : Fault) → sender_in (fields_in outer) ≡ Some sender
    → (is_in x (mail_faults outer payload) ≡ true) ↔ Wrong sender (recipients_in (fields_in outer)) (fields_in outer) (fields_in payload) x

-- O1, O2: a fault is one of the first n of a list: its three numbers stand there
pub record Listed (list : List ℕ) (n : ℕ) (x : Fault) : Type 0 where
  pub nth : ℕ
  pub within : nth < n
  pub block : get_or list (3 * nth) 0 ≡ x.block
  pub place : get_or list (3 * nth + 1) 0 ≡ x.place
  pub kind : get_or list (3 * nth + 2) 0 ≡ x.kind

-- C22: what `lint` lists, where it answers how many faults there are
abbrev pub AnswerLists : Type 0
AnswerLists =
    (outer payload list sender : List ℕ) (n : ℕ) (x : Fault) → Ok n ≡ linted_of outer payload (length list) → sender_in (fields_in outer) ≡ Some sender
    → Listed (left_by_linting outer payload list) n x ↔ Wrong sender (recipients_in (fields_in outer)) (fields_in outer) (fields_in payload) x

-- C22: the list is empty exactly when there is no fault
abbrev pub NoneExactly : Type 0
NoneExactly =
    (sender : List ℕ) (recipients : List (List ℕ)) (outer payload : List FieldText)
    → (faults_of sender recipients outer payload ≡ []) ↔ ((x : Fault) → Wrong sender recipients outer payload x → ⊥)

-- C22, O4: each fault is before the next
abbrev pub InOrder : Type 0
InOrder = (sender : List ℕ) (recipients : List (List ℕ)) (outer payload : List FieldText) → rising (faults_of sender recipients outer payload) ≡ true

-- C22: what stands somewhere does not stand behind it
abbrev pub NothingTwice : Type 0
NothingTwice =
    (sender : List ℕ) (recipients : List (List ℕ)) (outer payload : List FieldText) (front : List Fault) (x : Fault) (rest : List Fault)
    → faults_of sender recipients outer payload ≡ front ++ (x ∷ rest) → is_in x rest ≡ false

-- C24, F13: neither that no Autocrypt field is valid, nor that one is too many
abbrev pub Counts : Type 0
Counts =
    (sender : List ℕ) (recipients : List (List ℕ)) (outer payload : List FieldText)
    → is_in (fault 0 0 no_valid) (faults_of sender recipients outer payload) ≡ false
    → ((place : ℕ) → is_in (fault 0 place more_valid) (faults_of sender recipients outer payload) ≡ false)
    → is_some (counted_in key_limit outer sender) ≡ true
