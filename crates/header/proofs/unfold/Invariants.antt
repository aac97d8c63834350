use Rattle.std.proofs.Common.{length, ◌-◌}
use Rattle.header.proofs.LineByLine.{Unfolds}
use Rattle.header.proofs.unfold.Given as goal

abbrev pub invariant-loop-i : goal.invariant-loop-i
invariant-loop-i l = Unfolds l.raw l.initial.out l.out l.n l.i

abbrev pub decreases-loop-i : goal.decreases-loop-i
decreases-loop-i l = length l.raw - l.i
