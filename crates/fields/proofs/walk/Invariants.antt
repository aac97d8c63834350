use Rattle.std.proofs.Common.{length, ◌-◌}
use Rattle.fields.proofs.Walking.{Walked}
use Rattle.fields.proofs.walk.Given as goal

abbrev pub invariant-loop-name_end : goal.invariant-loop-name_end
invariant-loop-name_end l = Walked l.block l.seen l.place

abbrev pub decreases-loop-name_end : goal.decreases-loop-name_end
decreases-loop-name_end l = length l.block - l.place
