use Rattle.std.proofs.Common.{drop}
use Rattle.octets.specs.Puts.{Written}
use Rattle.utf8.specs.Utf8.{encoded}
use Rattle.codepoints.proofs.write.Given as goal

abbrev pub invariant-loop-p : goal.invariant-loop-p
invariant-loop-p l = Written l.initial.out l.at l.out l.to (encoded l.points) (encoded (drop l.p-index l.points))
