use Rattle.octets.proofs.Copying.{Copied}
use Rattle.octets.proofs.put.Given as goal

abbrev pub invariant-loop-i : goal.invariant-loop-i
invariant-loop-i l = Copied l.src l.initial.out l.out l.at l.i
