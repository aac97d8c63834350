-- SCOPE, C11, in words of what `process` answers and leaves: calls one after the other.
--     Call                     what `process` is given beside the table
--     OctetCall                lent memory holds octets
--     Calling                  what a call on a form of table answers, leaves and brings
--     left_by_all, answers_of  the calls of a list one after the other
--     answer_to, left_by       what `process` answers and leaves: the definitions that its contract cites
--     message_in               what a call brings: none where it is refused by 3 to 7
--     slot_calling             `process` on a table of slots
--     table_after, answers     its calls one after the other
use Rattle.std.specs.Prelude.{ℕ, List, [], ◌∷◌, Result}
use Rattle.std.specs.Prelude.{Option, Some, None}
use Rattle.refusals.specs.declared.Refusal.{Refusal}
use Rattle.octets.specs.Octets.{AllOctets}
use Rattle.refusals.specs.Rows.{first_of, answer_of, unless_refused}
use Rattle.update.specs.Message.{Message}
use Rattle.slots.specs.Slot.{key_limit}
use Rattle.message.specs.Message.{message_rows, message_of}
use Rattle.process.specs.Processing.{refused_processing, left_by_processing}
use Rattle.settings.specs.declared.Gossip.{Gossip}

-- C11: a call keeps its receipt time and its gossip setting, whenever it is made
pub record Call : Type 0 where
  pub receipt : ℕ
  pub outer : List ℕ
  pub payload : List ℕ
  pub setting : Gossip

-- both blocks of a call are octets
pub record OctetCall (c : Call) : Type 0 where
  pub outer : AllOctets c.outer
  pub payload : AllOctets c.payload

-- a form of calls: what one answers, the table that it leaves, and what it brings
pub record Calling (T : Type 0) : Type 0 where
  pub answer : T → Call → Result (Unit {0}) Refusal
  pub left : T → Call → T
  pub brings : Call → Option Message

-- the table after all calls of a list
unfoldable pub left_by_all : {T : Type 0} → Calling T → T → List Call → T
left_by_all calling t [] = t
left_by_all calling t (c ∷ rest) = left_by_all calling (calling.left t c) rest

-- what they answer, each on the table that the one before it leaves
unfoldable pub answers_of : {T : Type 0} → Calling T → T → List Call → List (Result (Unit {0}) Refusal)
answers_of calling t [] = []
answers_of calling t (c ∷ rest) = calling.answer t c ∷ answers_of calling (calling.left t c) rest

-- U2: what `process` answers to a call
unfoldable pub answer_to : List ℕ → Call → Result (Unit {0}) Refusal
answer_to t c = answer_of (refused_processing t c.receipt c.outer c.payload c.setting)

-- U2: the table that `process` leaves
unfoldable pub left_by : List ℕ → Call → List ℕ
left_by t c = left_by_processing t c.receipt c.outer c.payload c.setting

-- what a call brings, for which no table is asked: none where one of rows 3 to 7 holds
unfoldable pub message_in : Call → Option Message
message_in c =
    unless_refused (first_of (message_rows c.receipt c.outer c.payload c.setting)) None
    (Some (message_of key_limit c.receipt c.outer c.payload c.setting))

-- the calls of `process` on a table of slots
abbrev pub slot_calling : Calling (List ℕ)
slot_calling = record { answer = answer_to; left = left_by; brings = message_in }

-- the table that calls of `process` end with
abbrev pub table_after : List ℕ → List Call → List ℕ
table_after t cs = left_by_all slot_calling t cs

-- what they answer
abbrev pub answers : List ℕ → List Call → List (Result (Unit {0}) Refusal)
answers t cs = answers_of slot_calling t cs
