-- SCOPE, B14: a reader, which hands out a block's fields one by one. What stands at a place is `step_at` of the crate header.
--     handed, handed_at        what is handed out at a place
--     place_behind             where the reader goes on
--     handed_after             what is handed out after so many others
--     opened, moved_on         a reader at the beginning of a block, and behind what it handed out
--     taken_at                 what is handed out at a place, and where the reader goes on
--     text_of, field_of        the field that is handed out, and the field of a number of a list
use Rattle.std.specs.Prelude.{ℕ, zero, suc, List, [], ◌∷◌}
use Rattle.std.specs.Prelude.{Option, Some, None}
use Rattle.std.specs.Borrow.{Bor}
use Rattle.header.specs.Header.{FieldText}
use Rattle.header.specs.Answers.{step_at, field_at}
use Rattle.header.specs.declared.Step.{Step}
use Rattle.header.specs.declared.Step.TheVariants as step
use Rattle.reader.specs.declared.Handed.{Handed}
use Rattle.reader.specs.declared.Handed.TheVariants.{Over, Broken, Field}
use Rattle.reader.specs.declared.Reader.{Reader}
use Rattle.reader.specs.declared.Taken.{Taken}

-- B14: what is handed out at a place, by what stands there: a field with the place where its name begins
unfoldable pub handed : ℕ → Step → Handed
handed at step.Over = Over
handed at step.Broken = Broken
handed at (step.Field n v e) = Field at n v e

-- B14: the block's length is not tested
unfoldable pub handed_at : List ℕ → ℕ → Handed
handed_at s at = handed at (step_at s at)

-- B14: the reader goes on behind a field; at the block's end, and at a line that makes it unreadable, it stays
unfoldable pub place_behind : Handed → ℕ → ℕ
place_behind Over at = at
place_behind Broken at = at
place_behind (Field m n v e) at = e

-- B14: what a reader that begins at a place hands out after so many others
unfoldable pub handed_after : ℕ → List ℕ → ℕ → Handed
handed_after zero s at = handed_at s at
handed_after (suc k) s at = handed_after k s (place_behind (handed_at s at) at)

-- B14: a reader at the beginning of a block
abbrev pub opened : Bor (List ℕ) → Reader
opened block = record { block = block; at = 0 }

-- B14: a reader of the same block, at the place behind what is handed out
abbrev pub moved_on : Reader → Reader
moved_on r = record { block = r.block; at = place_behind (handed_at r.block.now r.at) r.at }

-- B14: what is handed out and the place behind it, for who keeps the place and not the reader
abbrev pub taken_at : List ℕ → ℕ → Taken
taken_at s at = record { handed = handed_at s at; at = place_behind (handed_at s at) at }

-- B14: the field that is handed out, by its places
unfoldable pub text_of : List ℕ → Handed → Option FieldText
text_of s Over = None
text_of s Broken = None
text_of s (Field m n v e) = Some (field_at s m n v e)

-- B14: fields are numbered from 0
unfoldable pub field_of : ℕ → List FieldText → Option FieldText
field_of k [] = None
field_of zero (f ∷ fs) = Some f
field_of (suc k) (f ∷ fs) = field_of k fs
