use Rattle.std.proofs.Common.{length, ◌-◌}
use Rattle.roll.proofs.Looking.{Looking}
use Rattle.roll.proofs.holds.Given as goal

abbrev pub invariant-loop-i : goal.invariant-loop-i
invariant-loop-i l = Looking l.roll l.tags l.places l.wanted l.tag l.i

abbrev pub decreases-loop-i : goal.decreases-loop-i
decreases-loop-i l = length l.tags - l.i
