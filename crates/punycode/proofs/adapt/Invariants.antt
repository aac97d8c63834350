use Rattle.punycode.proofs.adapt.Given as goal
use Rattle.punycode.proofs.Scaling.{Scaling}

abbrev pub invariant-loop-d : goal.invariant-loop-d
invariant-loop-d l = Scaling l.delta l.points l.first l.d l.k

abbrev pub decreases-loop-d : goal.decreases-loop-d
decreases-loop-d l = l.d
