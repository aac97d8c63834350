-- What the writing of a message (U2) asks for.
--     Listens     an open table, a date, a payload with a text for its values, and the recipients whom gossip may be about
--     Sends       an open table, and what a message brings to it
--     Carries     what a message brings to an open table, a payload with a text for its values, and the recipients
use Rattle.std.specs.Prelude.{ℕ, ◌≤◌, List}
use Rattle.heads.specs.Head.{time_limit}
use Rattle.slots.specs.Slot.{key_limit}
use Rattle.table.specs.Tagged.{Open}
use Rattle.roll.specs.Index.{Indexed}
use Rattle.message.specs.Answers.{Ready}
use Rattle.message.specs.declared.Brought.{Brought}
use Rattle.room.specs.Counting.{Reads}

pub record Listens (t tags : List ℕ) (date : ℕ) (payload : List ℕ) (limit : ℕ) (recipients listed places text : List ℕ) : Type 0 where
  pub opened : Open t tags
  pub in_range : date ≤ time_limit
  pub reads : Reads payload text
  pub index : Indexed recipients listed places
  pub most : limit ≤ key_limit

pub record Sends (t tags sender key : List ℕ) (b : Brought) : Type 0 where
  pub opened : Open t tags
  pub ready : Ready sender key b

pub record Carries (t tags sender key : List ℕ) (b : Brought) (payload : List ℕ) (limit : ℕ) (recipients listed places text : List ℕ) : Type 0 where
  pub sends : Sends t tags sender key b
  pub reads : Reads payload text
  pub index : Indexed recipients listed places
  pub most : limit ≤ key_limit
