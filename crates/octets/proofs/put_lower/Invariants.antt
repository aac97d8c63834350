use Rattle.octets.specs.Octets.{lowered}
use Rattle.octets.proofs.Copying.{Copied}
use Rattle.octets.proofs.put_lower.Given as goal

abbrev pub invariant-loop-i : goal.invariant-loop-i
invariant-loop-i l = Copied (lowered l.src) l.initial.out l.out l.at l.i
