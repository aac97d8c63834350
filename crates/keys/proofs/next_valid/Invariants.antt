use Rattle.std.proofs.Common.{◌≡◌, ◌-◌, length}
use Rattle.keyfield.specs.Field.{valid_for}
use Rattle.fields.specs.declared.Kind.TheVariants.{Autocrypt}
use Rattle.keys.proofs.Walking.{Past}
use Rattle.keys.proofs.next_valid.Given as goal

abbrev pub invariant-loop-length : goal.invariant-loop-length
invariant-loop-length l = (Past (valid_for l.limit l.sender) Autocrypt l.block l.at l.place) × (length l.text ≡ length l.fn.text)

abbrev pub decreases-loop-length : goal.decreases-loop-length
decreases-loop-length l = length l.block - l.place
