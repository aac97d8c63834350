use Rattle.coder.proofs.Digits.{Going}
use Rattle.coder.proofs.put_integer.Given as goal

abbrev pub invariant-loop-i : goal.invariant-loop-i
invariant-loop-i l = Going l.fn.out l.out l.at l.bias l.delta l.q l.k l.i
