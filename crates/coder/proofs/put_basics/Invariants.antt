use Rattle.coder.proofs.Coding.{Basics}
use Rattle.coder.proofs.put_basics.Given as goal

abbrev pub invariant-loop-c : goal.invariant-loop-c
invariant-loop-c l = Basics l.fn.out l.out l.points l.at l.c-index
