use Rattle.std.proofs.Common.{length, ◌-◌}
use Rattle.header.specs.Header.{raw_length}
use Rattle.header.proofs.Counting.{Going}
use Rattle.header.proofs.raw_end.Given as goal

abbrev pub invariant-loop-i : goal.invariant-loop-i
invariant-loop-i l = Going raw_length l.s l.at l.i

abbrev pub decreases-loop-i : goal.decreases-loop-i
decreases-loop-i l = length l.s - l.i
