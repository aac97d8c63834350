-- SCOPE, G4: the roll of the recipients in lent memory.
--     Gathers       what the memory has to be
--     GatheredAs    what it has then: the roll of `recipients_in` (crate outer), and its index
use Rattle.std.specs.Prelude.{ℕ, ◌*◌, ◌≤◌, ◌≡◌, List, length}
use Rattle.roll.specs.Growing.{in_roll, Kept}
use Rattle.roll.specs.declared.Rolled.{Rolled}
use Rattle.fields.specs.Fields.{fields_in}
use Rattle.fields.specs.Spans.{SurveyAs}
use Rattle.fields.specs.declared.Survey.{Survey}
use Rattle.outer.specs.Outer.{recipients_in}

-- A roll has no more octets than the block, and an address in it at least four: `a@b` and what ends it.
pub record Gathers (block : List ℕ) (survey : Survey) (text roll tags places : List ℕ) : Type 0 where
  pub surveyed : SurveyAs block survey
  pub texts : length block ≤ length text
  pub octets : length block ≤ length roll
  pub short : length roll ≤ 65536
  pub numbers : length block ≤ 4 * length tags
  pub spots : length block ≤ 4 * length places

-- G4: the roll has the recipients of the outer block, in order
pub record GatheredAs (block roll tags places : List ℕ) (r : Rolled) : Type 0 where
  pub kept : Kept roll tags places r
  pub list : in_roll r roll ≡ recipients_in (fields_in block)
