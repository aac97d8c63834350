use Rattle.std.proofs.Common.{◌-◌, length}
use Rattle.octets.proofs.Finding.{Skipping}
use Rattle.octets.proofs.skip.Given as goal

abbrev pub invariant-loop-i : goal.invariant-loop-i
invariant-loop-i g l = Skipping (λ y. g.T.PartialEq.eq y l.x) l.s l.at l.i

abbrev pub decreases-loop-i : goal.decreases-loop-i
decreases-loop-i g l = length l.s - l.i
