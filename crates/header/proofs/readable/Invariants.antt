use Rattle.std.proofs.Common.{length, ◌-◌}
use Rattle.header.proofs.Fields.{Legible}
use Rattle.header.proofs.readable.Given as goal

abbrev pub invariant-loop-end : goal.invariant-loop-end
invariant-loop-end l = Legible l.block l.here.at

abbrev pub decreases-loop-end : goal.decreases-loop-end
decreases-loop-end l = length l.block - l.here.at
