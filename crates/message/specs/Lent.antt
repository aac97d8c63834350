-- What the reading of a message (R3, R4, R5, R6, R7) asks for, and what it knows between its tests.
--     Lent       room for the values of the outer block, for an address and for a key of at most so many octets
--     Walked     the outer block is readable, its survey is known, and there is room for its values
--     Opened     that much is known, the receipt time is in range, and there is room for an address and a key
--     Sent       that much is known, the receipt time is in range, this is the sender, and there is room for a key
--     MailReadAs `ReadAs`, of a mail
use Rattle.std.specs.Prelude.{ℕ, ◌≤◌, min, ◌≡◌, List, length}
use Rattle.std.specs.Prelude.{Some}
use Rattle.header.specs.Header.{limit}
use Rattle.fields.specs.Fields.{fields_in}
use Rattle.fields.specs.Spans.{SurveyAs}
use Rattle.fields.specs.declared.Survey.{Survey}
use Rattle.heads.specs.Head.{time_limit}
use Rattle.slots.specs.Slot.{address_room, key_limit}
use Rattle.outer.specs.Outer.{sender_in}
use Rattle.message.specs.Answers.{ReadAs}
use Rattle.message.specs.declared.Mail.{Mail}
use Rattle.message.specs.declared.Reading.{Reading}

pub record Lent (most : ℕ) (outer text sender key : List ℕ) : Type 0 where
  pub room : min (length outer) limit ≤ length text
  pub sender_room : address_room ≤ length sender
  pub key_room : most ≤ length key
  pub key_most : most ≤ key_limit

pub record Walked (outer : List ℕ) (survey : Survey) (text : List ℕ) : Type 0 where
  pub surveyed : SurveyAs outer survey
  pub room : length outer ≤ length text

pub record Opened (most receipt : ℕ) (outer : List ℕ) (survey : Survey) (text sender key : List ℕ) : Type 0 where
  pub in_time : receipt ≤ time_limit
  pub walked : Walked outer survey text
  pub sender_room : address_room ≤ length sender
  pub key_room : most ≤ length key
  pub key_most : most ≤ key_limit

pub record Sent (most receipt : ℕ) (outer : List ℕ) (survey : Survey) (text sender key : List ℕ) : Type 0 where
  pub in_time : receipt ≤ time_limit
  pub walked : Walked outer survey text
  pub sent : sender_in (fields_in outer) ≡ Some sender
  pub key_room : most ≤ length key
  pub key_most : most ≤ key_limit

-- R3, R4, R5, R6, R7: what each answer of the reading says of a mail
abbrev pub MailReadAs : Mail → List ℕ → List ℕ → Reading → Type 0
MailReadAs m sender key r = ReadAs m.settings.key_limit m.receipt m.outer.now m.payload.now m.settings.gossip sender key r
