use Rattle.std.proofs.Common.{◌-◌, length}
use Rattle.keydata.specs.Steps.{Run}
use Rattle.keydata.proofs.write.Given as goal

abbrev pub invariant-reading : goal.invariant-reading
invariant-reading l = Run l.src 0 l.fn.out 0 l.out l.i l.o

abbrev pub decreases-reading : goal.decreases-reading
decreases-reading l = length l.src - l.i
