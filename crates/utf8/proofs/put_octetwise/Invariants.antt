use Rattle.octets.proofs.Copying.{Copied}
use Rattle.utf8.specs.Steps.{octetwise}
use Rattle.utf8.proofs.put_octetwise.Given as goal

abbrev pub invariant-loop-i : goal.invariant-loop-i
invariant-loop-i l = Copied (octetwise 0 l.src) l.initial.out l.out l.at l.i
