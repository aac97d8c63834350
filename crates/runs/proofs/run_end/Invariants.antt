use Rattle.runs.specs.Runs.{belongs}
use Rattle.runs.proofs.Running.{Runs}
use Rattle.runs.proofs.run_end.Given as goal

abbrev pub invariant-loop-i : goal.invariant-loop-i
invariant-loop-i l = Runs (belongs l.class) l.s l.at l.i
