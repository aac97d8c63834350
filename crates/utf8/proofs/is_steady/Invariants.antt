use Rattle.utf8.proofs.Staying.{Steady}
use Rattle.utf8.proofs.is_steady.Given as goal

abbrev pub invariant-loop-x : goal.invariant-loop-x
invariant-loop-x l = Steady l.s l.all l.before l.x-index
