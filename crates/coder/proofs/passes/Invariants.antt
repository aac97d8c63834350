use Rattle.std.proofs.Common.{◌-◌}
use Rattle.coder.proofs.Rounds.{Rounds}
use Rattle.coder.proofs.passes.Given as goal

abbrev pub invariant-loop-m : goal.invariant-loop-m
invariant-loop-m l = Rounds l.fn.out l.out l.points l.b l.at l.s l.n

abbrev pub decreases-loop-m : goal.decreases-loop-m
decreases-loop-m l = 0x110000 - l.n
