-- From the rules on counted and accepted fields (F13, G5) to what the code asks for, answers and leaves in lent memory.
--     Takes, TakenAt, TakenAs        a value of a kind of fields, from a place of a block on: asked for, and the first of these
--     valid_from                     the Autocrypt fields that are valid, from a place of a block on
--     Seeks, ValidAt, ValidAs        one of these asked for, and the first of them
--     Weighs                         the one that counts, asked for
--     gossip_from, gossip_of         the accepted gossip from a place of a payload on, and that of the whole, by the roll of the recipients
--     Hears, HeardAt, HeardAs        some of it asked for, and the first of it
use Rattle.std.specs.Prelude.{ℕ, ◌<◌, ◌≤◌, ◌≡◌, true, List, [], ◌∷◌, length, take}
use Rattle.std.specs.Prelude.{Option, Some, None}
use Rattle.octets.specs.Options.{is_some}
use Rattle.header.specs.Answers.{fields_from}
use Rattle.address.specs.Address.{is_canonical}
use Rattle.slots.specs.Slot.{address_room, key_limit}
use Rattle.keyfield.specs.Field.{Field, valid_fields}
use Rattle.keyfield.specs.Answers.{Opens}
use Rattle.roll.specs.Roll.{unrolled}
use Rattle.roll.specs.Index.{Indexed}
use Rattle.update.specs.Message.{Gossiped}
use Rattle.fields.specs.Fields.{fields_in}
use Rattle.fields.specs.Answers.{values_from}
use Rattle.fields.specs.Spans.{SurveyAs}
use Rattle.fields.specs.declared.Kind.{Kind}
use Rattle.fields.specs.declared.Kind.TheVariants.{Autocrypt, AutocryptGossip}
use Rattle.fields.specs.declared.Survey.{Survey}
use Rattle.keys.specs.Keys.{accepted, gossip_in}
use Rattle.keys.specs.declared.Taken.{Taken}
use Rattle.keys.specs.declared.Taken.TheVariants.{Value, NoValue}
use Rattle.keys.specs.declared.Valid.{Valid}
use Rattle.keys.specs.declared.Heard.{Heard}

-- The fields of the block are readable from `at` on, none of the kind stands from `last` on, and the text has room for a value.
pub record Takes (kind : Kind) (block : List ℕ) (at last : ℕ) (text : List ℕ) : Type 0 where
  pub clear : is_some (fields_from block at) ≡ true
  pub no_more : values_from kind block last ≡ []
  pub room : length block ≤ length text

-- The first value of the kind opens the text, and the rest stand from e on.
pub record TakenAt (kind : Kind) (s : List ℕ) (at : ℕ) (text : List ℕ) (n e : ℕ) : Type 0 where
  pub first : values_from kind s at ≡ take n text ∷ values_from kind s e
  pub within : n ≤ length text
  pub later : at < e
  pub upto : e ≤ length s
  pub readable : is_some (fields_from s e) ≡ true

-- the answer: the first value of the kind, or that there is none
unfoldable pub TakenAs : Kind → List ℕ → ℕ → List ℕ → Taken → Type 0
TakenAs kind s at text (Value n e) = TakenAt kind s at text n e
TakenAs kind s at text NoValue = values_from kind s at ≡ []

-- F12: the Autocrypt fields that are valid for the sender, from a place of a block on
unfoldable pub valid_from : ℕ → List ℕ → List ℕ → ℕ → List Field
valid_from limit sender s at = valid_fields limit sender (values_from Autocrypt s at)

-- Values can be taken, the sender's address is canonical, and there is room for a key.
pub record Seeks (limit : ℕ) (block : List ℕ) (at last : ℕ) (sender text key : List ℕ) : Type 0 where
  pub takes : Takes Autocrypt block at last text
  pub canonical : is_canonical sender ≡ true
  pub key_room : limit ≤ length key

-- The first valid field has this preference, its key opens the lent memory, and the rest stand behind it.
pub record ValidAt (limit : ℕ) (sender s : List ℕ) (at : ℕ) (key : List ℕ) (r : Valid) : Type 0 where
  pub first :
      valid_from limit sender s at
      ≡ record { address = sender; is_mutual = r.own.«mutual»; key = take r.own.length key } ∷ valid_from limit sender s r.end
  pub opens : Opens limit key r.own.length
  pub readable : is_some (fields_from s r.end) ≡ true

-- the answer: the first valid field, or that there is none
unfoldable pub ValidAs : ℕ → List ℕ → List ℕ → ℕ → List ℕ → Option Valid → Type 0
ValidAs limit sender s at key (Some r) = ValidAt limit sender s at key r
ValidAs limit sender s at key None = valid_from limit sender s at ≡ []

-- The block was surveyed, the sender's address is canonical, and there is room for a value, for a key, and for another one.
pub record Weighs (limit : ℕ) (block : List ℕ) (survey : Survey) (sender text key : List ℕ) : Type 0 where
  pub surveyed : SurveyAs block survey
  pub canonical : is_canonical sender ≡ true
  pub room : length block ≤ length text
  pub key_room : limit ≤ length key
  pub spare_room : limit ≤ key_limit

-- G5: the accepted gossip from a place of a payload on
unfoldable pub gossip_from : ℕ → List (List ℕ) → List ℕ → ℕ → List Gossiped
gossip_from limit recipients payload at = accepted limit recipients (values_from AutocryptGossip payload at)

-- G5: the accepted gossip of a payload, by the roll of the recipients
abbrev pub gossip_of : ℕ → List ℕ → List ℕ → List Gossiped
gossip_of limit recipients payload = gossip_in limit (unrolled recipients) (fields_in payload)

-- The fields of the payload are readable from `at` on, the roll of the recipients has its index, and the three memories have room.
pub record Hears (limit : ℕ) (payload : List ℕ) (at : ℕ) (recipients tags places text address key : List ℕ) : Type 0 where
  pub clear : is_some (fields_from payload at) ≡ true
  pub index : Indexed recipients tags places
  pub room : length payload ≤ length text
  pub room_for_address : address_room ≤ length address
  pub key_room : limit ≤ length key

-- The first accepted gossip has this address, in canonical form, and this key, which open the two lent memories, and the rest stand behind it.
pub record HeardAt (limit : ℕ) (recipients : List (List ℕ)) (payload : List ℕ) (at : ℕ) (address key : List ℕ) (r : Heard) : Type 0 where
  pub first :
      gossip_from limit recipients payload at
      ≡ record { address = take r.gossip.address address; key = take r.gossip.key key } ∷ gossip_from limit recipients payload r.end
  pub canonical : is_canonical (take r.gossip.address address) ≡ true
  pub address_within : r.gossip.address ≤ length address
  pub opens : Opens limit key r.gossip.key
  pub later : at < r.end
  pub upto : r.end ≤ length payload
  pub readable : is_some (fields_from payload r.end) ≡ true

-- the answer: the first accepted gossip, or that there is none
unfoldable pub HeardAs : ℕ → List (List ℕ) → List ℕ → ℕ → List ℕ → List ℕ → Option Heard → Type 0
HeardAs limit recipients payload at address key (Some r) = HeardAt limit recipients payload at address key r
HeardAs limit recipients payload at address key None = gossip_from limit recipients payload at ≡ []
