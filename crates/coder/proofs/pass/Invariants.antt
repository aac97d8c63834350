use Rattle.coder.proofs.Passing.{Walk}
use Rattle.coder.proofs.pass.Given as goal

abbrev pub invariant-loop-c : goal.invariant-loop-c
invariant-loop-c l = Walk l.fn.out l.out l.b l.n l.points l.fn.s l.t l.c-index
