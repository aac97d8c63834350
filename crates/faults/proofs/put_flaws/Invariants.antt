use Rattle.std.proofs.Common.{◌+◌}
use Rattle.faults.proofs.Putting.{Laid}
use Rattle.faults.proofs.put_flaws.Given as goal

abbrev pub invariant-loop-kind : goal.invariant-loop-kind
invariant-loop-kind l = Laid l.fn.flaws l.block l.place l.at l.fn.list l.list (l.kind-index + 2) l.to
