use Rattle.std.proofs.Common.{length, ◌-◌}
use Rattle.tokens.proofs.Quoting.{Quoting}
use Rattle.tokens.proofs.quoted.Given as goal

abbrev pub invariant-loop-i : goal.invariant-loop-i
invariant-loop-i l = Quoting l.s l.at l.i

abbrev pub decreases-loop-i : goal.decreases-loop-i
decreases-loop-i l = length l.s - l.i
