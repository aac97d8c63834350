use Rattle.utf8.proofs.Telling.{Told}
use Rattle.utf8.proofs.is_text.Given as goal

abbrev pub invariant-loop-x : goal.invariant-loop-x
invariant-loop-x l = Told l.s l.next l.x-index
