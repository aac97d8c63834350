-- From the rules on messages to what the code answers and leaves in lent memory.
--     JudgedAs                     rows 6 and 7, by whether the message is a report
--     direct_from, mail_of         what the answer brings: its sender and its key as they stand in lent memory, and gossip
--     Ready                        it can be put into a table
--     heard_in                     the gossip of the payload about the recipients of the outer block
--     BringsAs                     what the message of a sender brings
--     AloneAs, CarryingAs, ReadAs  the whole reading: the first of rows 3 to 7 that holds; where none does, what the message brings
use Rattle.std.specs.Prelude.{ℕ, ◌≤◌, ◌≡◌, Bool, true, false, not, ◌&&◌, List, [], length, take}
use Rattle.std.specs.Prelude.{Option, Some, None}
use Rattle.refusals.specs.Rows.{first_of}
use Rattle.settings.specs.Settings.{taken}
use Rattle.settings.specs.declared.Gossip.{Gossip}
use Rattle.header.specs.Header.{FieldText, readable}
use Rattle.fields.specs.Fields.{fields_in}
use Rattle.fields.specs.Spans.{SurveyAs}
use Rattle.fields.specs.declared.Survey.{Survey}
use Rattle.address.specs.Address.{is_canonical}
use Rattle.heads.specs.Head.{time_limit}
use Rattle.slots.specs.Slot.{key_limit}
use Rattle.heads.specs.Entry.{Direct}
use Rattle.update.specs.Message.{Gossiped, Message}
use Rattle.outer.specs.Outer.{recipients_in}
use Rattle.keyowner.specs.declared.OwnKey.{OwnKey}
use Rattle.keys.specs.Keys.{gossip_in}
use Rattle.message.specs.Message.{payload_in, message_rows, message_by, message_of}
use Rattle.message.specs.declared.Brought.{Brought}
use Rattle.message.specs.declared.Judged.{Judged}
use Rattle.message.specs.declared.Judged.TheVariants.{Report, Unreadable, Passed, Searched}
use Rattle.message.specs.declared.Reading.{Reading}
use Rattle.message.specs.declared.Reading.TheVariants.{Alone, Carrying, Refused}

-- R7: row 7 holds, and row 6 does not
pub record IsUnreadable (reported : Bool) (payload : List ℕ) (g : Gossip) : Type 0 where
  pub no_report : reported ≡ false
  pub holds : (taken g && not (readable payload)) ≡ true

-- neither row 6 nor row 7 holds, and these are the fields in which gossip is looked for
pub record Passes (reported : Bool) (payload : List ℕ) (g : Gossip) (fs : List FieldText) : Type 0 where
  pub no_report : reported ≡ false
  pub no_row : (taken g && not (readable payload)) ≡ false
  pub fields : payload_in g payload ≡ fs

-- neither row holds, and gossip is taken out of the payload, which is readable
pub record IsSearched (reported : Bool) (payload : List ℕ) (g : Gossip) : Type 0 where
  pub takes : taken g ≡ true
  pub passes : Passes reported payload g (fields_in payload)
  pub readably : readable payload ≡ true

-- R6, R7: what each answer on the two rows says
unfoldable pub JudgedAs : Bool → List ℕ → Gossip → Judged → Type 0
JudgedAs reported payload g Report = reported ≡ true
JudgedAs reported payload g Unreadable = IsUnreadable reported payload g
JudgedAs reported payload g Passed = Passes reported payload g []
JudgedAs reported payload g Searched = IsSearched reported payload g

-- the direct half of the field that was found, whose key opens the lent memory
unfoldable pub direct_from : ℕ → List ℕ → Option OwnKey → Option Direct
direct_from date key None = None
direct_from date key (Some r) = Some (record { timestamp = date; key = take r.length key; «mutual» = r.«mutual» })

-- the message that an answer brings, by the sender and the key in lent memory
unfoldable pub mail_of : List ℕ → List ℕ → Brought → List Gossiped → Message
mail_of sender key b gossip = record { sender = sender; date = b.date; direct = direct_from b.date key b.own; gossip = gossip }

-- F10: the key of a field that was found opens the lent memory, and has 1 to 2,048 octets
pub record KeyIn (key : List ℕ) (n : ℕ) : Type 0 where
  pub some_octet : 1 ≤ n
  pub most : n ≤ key_limit
  pub within : n ≤ length key

-- the field that counts has such a key, if there is one
unfoldable pub OwnIn : List ℕ → Option OwnKey → Type 0
OwnIn key None = Unit
OwnIn key (Some r) = KeyIn key r.length

-- what an answer brings can be put into a table: a canonical sender, a date that is a time, and a key of 1 to 2,048 octets
pub record Ready (sender key : List ℕ) (b : Brought) : Type 0 where
  pub canonical : is_canonical sender ≡ true
  pub in_range : b.date ≤ time_limit
  pub own : OwnIn key b.own

-- G4, G5: the accepted gossip of the payload, about the recipients of the outer block
abbrev pub heard_in : ℕ → List ℕ → List ℕ → List Gossiped
heard_in most outer payload = gossip_in most (recipients_in (fields_in outer)) (fields_in payload)

-- its date and its direct half are those of the outer block, with any payload
pub record BringsAs (most receipt : ℕ) (outer sender key : List ℕ) (b : Brought) : Type 0 where
  pub long : b.sender ≡ length sender
  pub ready : Ready sender key b
  pub is : (fs : List FieldText) → mail_of sender key b (gossip_in most (recipients_in (fields_in outer)) fs) ≡ message_by most receipt sender (fields_in outer) fs

-- the answer brings the message m, with this gossip
pub record Brings (sender key : List ℕ) (b : Brought) (gossip : List Gossiped) (m : Message) : Type 0 where
  pub within : b.sender ≤ length sender
  pub ready : Ready (take b.sender sender) key b
  pub is : mail_of (take b.sender sender) key b gossip ≡ m

-- no row holds, and the message brings no gossip
pub record AloneAs (most receipt : ℕ) (outer payload : List ℕ) (g : Gossip) (sender key : List ℕ) (b : Brought) : Type 0 where
  pub in_order : first_of (message_rows receipt outer payload g) ≡ None
  pub brings : Brings sender key b [] (message_of most receipt outer payload g)

-- no row holds, gossip is taken, and the message brings what there is of it in its payload
pub record CarryingAs (most receipt : ℕ) (outer payload : List ℕ) (g : Gossip) (sender key : List ℕ) (b : Brought) (survey : Survey) : Type 0 where
  pub takes : taken g ≡ true
  pub in_order : first_of (message_rows receipt outer payload g) ≡ None
  pub surveyed : SurveyAs outer survey
  pub readably : readable payload ≡ true
  pub brings : Brings sender key b (heard_in most outer payload) (message_of most receipt outer payload g)

-- R3, R4, R5, R6, R7: what each answer of the reading says
unfoldable pub ReadAs : ℕ → ℕ → List ℕ → List ℕ → Gossip → List ℕ → List ℕ → Reading → Type 0
ReadAs most receipt outer payload g sender key (Alone b) = AloneAs most receipt outer payload g sender key b
ReadAs most receipt outer payload g sender key (Carrying b v) = CarryingAs most receipt outer payload g sender key b v
ReadAs most receipt outer payload g sender key (Refused r) = first_of (message_rows receipt outer payload g) ≡ Some r
