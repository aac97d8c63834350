use Rattle.std.proofs.Common.{◌-◌, length}
use Rattle.addresslist.proofs.Counting.{Counting}
use Rattle.addresslist.proofs.count.Given as goal

abbrev pub invariant-loop-next : goal.invariant-loop-next
invariant-loop-next l = Counting l.list l.n l.here

abbrev pub decreases-loop-next : goal.decreases-loop-next
decreases-loop-next l = length l.list - l.here.at
