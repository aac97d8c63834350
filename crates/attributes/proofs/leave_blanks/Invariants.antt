use Rattle.attributes.proofs.Trimming.{Back}
use Rattle.attributes.proofs.leave_blanks.Given as goal

abbrev pub invariant-loop-i : goal.invariant-loop-i
invariant-loop-i l = Back l.s l.from l.to l.i
