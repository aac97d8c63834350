use Rattle.std.proofs.Common.{length, ◌-◌}
use Rattle.tokens.proofs.Skipping.{Skipping}
use Rattle.tokens.proofs.skip.Given as goal

abbrev pub invariant-loop-i : goal.invariant-loop-i
invariant-loop-i l = Skipping l.s l.at l.i

abbrev pub decreases-loop-i : goal.decreases-loop-i
decreases-loop-i l = length l.s - l.i
