-- What is known between the stages of processing (U2). Only the crate's own contracts speak of it.
--     is_short    the blocks that are read have at most 8,192 octets
--     Roomy       the table is open, and there is so much room for a value of the blocks that are read
--     Readied     a message with a payload was read
use Rattle.std.specs.Prelude.{ℕ, ◌≤◌, min, ◌≡◌, Bool, true, not, ◌&&◌, ◌||◌, List, leb, length}
use Rattle.settings.specs.Settings.{taken}
use Rattle.settings.specs.declared.Gossip.{Gossip}
use Rattle.header.specs.Header.{limit}
use Rattle.fields.specs.Spans.{SurveyAs}
use Rattle.fields.specs.declared.Survey.{Survey}
use Rattle.table.specs.Tagged.{Open}
use Rattle.message.specs.declared.Brought.{Brought}
use Rattle.room.specs.Counting.{Reads}
use Rattle.delivery.specs.Sending.{Sends}

-- G2: a payload that is not taken is not read, however long it is
unfoldable pub is_short : List ℕ → List ℕ → Gossip → Bool
is_short outer payload g = leb (length outer) 8192 && (not (taken g) || leb (length payload) 8192)

-- G2: room for a payload is asked for only where it is taken
pub record Roomy (t tags outer payload : List ℕ) (g : Gossip) (room : ℕ) : Type 0 where
  pub opened : Open t tags
  pub most : room ≤ limit
  pub outer_fits : min (length outer) limit ≤ room
  pub payload_fits : taken g ≡ true → min (length payload) limit ≤ room

pub record Readied (t tags : List ℕ) (b : Brought) (sender key outer : List ℕ) (survey : Survey) (payload text : List ℕ) : Type 0 where
  pub sends : Sends t tags sender key b
  pub reads : Reads payload text
  pub surveyed : SurveyAs outer survey
  pub outer_fits : length outer ≤ length text
