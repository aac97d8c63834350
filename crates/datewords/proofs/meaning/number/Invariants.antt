use Rattle.datewords.proofs.Digits.{Valued}
use Rattle.datewords.proofs.meaning.number.Given as goal

abbrev pub invariant-loop-x : goal.invariant-loop-x
invariant-loop-x l = Valued l.run l.x-index l.n
