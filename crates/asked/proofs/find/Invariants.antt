use Rattle.std.proofs.Common.{◌-◌, length}
use Rattle.asked.proofs.Finding.{Seeking}
use Rattle.asked.proofs.find.Given as goal

abbrev pub invariant-loop-what : goal.invariant-loop-what
invariant-loop-what l = Seeking l.what l.s l.at l.place

abbrev pub decreases-loop-what : goal.decreases-loop-what
decreases-loop-what l = length l.s - l.place
