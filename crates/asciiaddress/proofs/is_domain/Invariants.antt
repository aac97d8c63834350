-- `asciiaddress::is_domain` meets its contract: the laws of `Labels` keep the loop's invariant and answer every need. Assumes nothing.
use Prim.Native.Nat.{◌-◌}
use lib.ListN.{length}
use Rattle.asciiaddress.proofs.Labels.{Labels}
use Rattle.asciiaddress.proofs.is_domain.Given as goal

abbrev pub invariant-loop-i : goal.invariant-loop-i
invariant-loop-i l = Labels l.s l.at l.i

abbrev pub decreases-loop-i : goal.decreases-loop-i
decreases-loop-i l = length l.s - l.i
