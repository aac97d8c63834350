use Rattle.octets.proofs.Zeros.{Zeros}
use Rattle.octets.proofs.is_zero.Given as goal

abbrev pub invariant-loop-x : goal.invariant-loop-x
invariant-loop-x l = Zeros l.s l.most l.x-index
