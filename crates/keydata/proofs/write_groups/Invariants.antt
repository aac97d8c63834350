use Rattle.std.proofs.Common.{◌-◌, ◌+◌, ◌<◌, length}
use Rattle.keydata.specs.Steps.{Run}
use Rattle.keydata.proofs.write_groups.Given as goal

abbrev pub invariant-writing : goal.invariant-writing
invariant-writing l = Run l.src l.at l.fn.out l.to l.out l.i l.o

abbrev pub decreases-writing : goal.decreases-writing
decreases-writing l = length l.src - l.i

abbrev pub invariant-counting : goal.invariant-counting
invariant-counting l = record { run : Run l.src l.at l.fn.out l.to l.out l.i l.o; full : length l.out < l.o + 3 }

abbrev pub decreases-counting : goal.decreases-counting
decreases-counting l = length l.src - l.i
