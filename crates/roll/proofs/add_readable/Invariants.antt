use Rattle.std.proofs.Common.{length, ◌-◌}
use Rattle.roll.proofs.Adding.{Adding}
use Rattle.roll.proofs.add_readable.Given as goal

abbrev pub invariant-loop-from : goal.invariant-loop-from
invariant-loop-from l =
    Adding l.list l.initial.roll l.initial.tags l.initial.places l.initial.so_far l.roll l.tags l.places l.so_far l.here

abbrev pub decreases-loop-from : goal.decreases-loop-from
decreases-loop-from l = length l.list - l.here.at
