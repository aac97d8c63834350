use Rattle.std.proofs.Common.{◌-◌, length}
use Rattle.codepoints.proofs.Walking.{Walk}
use Rattle.codepoints.proofs.read_small.Given as goal

abbrev pub invariant-loop-i : goal.invariant-loop-i
invariant-loop-i l = Walk l.s l.initial.out l.out l.n l.i

abbrev pub decreases-loop-i : goal.decreases-loop-i
decreases-loop-i l = length l.s - l.i
