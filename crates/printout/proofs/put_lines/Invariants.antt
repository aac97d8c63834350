use Rattle.printout.proofs.Lines.{Lined}
use Rattle.printout.proofs.put_lines.Given as goal

abbrev pub invariant-loop-i : goal.invariant-loop-i
invariant-loop-i l = Lined l.t l.initial.out l.out l.i-end l.o l.i
