use Rattle.octets.proofs.Numerals.{Reading}
use Rattle.octets.proofs.number_at.Given as goal

abbrev pub invariant-loop-k : goal.invariant-loop-k
invariant-loop-k l = Reading l.s l.at l.width l.n l.k
