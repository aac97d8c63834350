use Rattle.std.proofs.Common.{◌-◌, length}
use Rattle.advice.proofs.Targets.{Reaches}
use Rattle.advice.proofs.target_at.Given as goal

abbrev pub invariant-loop-from : goal.invariant-loop-from
invariant-loop-from l = Reaches l.table l.recipients l.place l.left l.here

abbrev pub decreases-loop-from : goal.decreases-loop-from
decreases-loop-from l = length l.recipients - l.here.at
