use Rattle.std.proofs.Common.{◌-◌, length}
use Rattle.addresslist.proofs.Moving.{Nears}
use Rattle.addresslist.proofs.next_address.Given as goal

abbrev pub invariant-loop-from : goal.invariant-loop-from
invariant-loop-from l = Nears l.list l.fn.cursor l.here

abbrev pub decreases-loop-from : goal.decreases-loop-from
decreases-loop-from l = length l.list - l.here.at
