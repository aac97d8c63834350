use Rattle.std.proofs.Common.{◌≡◌, true, false}
use Rattle.octets.specs.Octets.{same_octets}
use Rattle.octets.proofs.differ.Given as goal

abbrev pub invariant-loop-i : goal.invariant-loop-i
invariant-loop-i l = l.found ≡ true → false ≡ same_octets l.a l.b
