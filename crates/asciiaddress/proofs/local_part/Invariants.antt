-- `asciiaddress::local_part` meets its contract: the laws of `Atoms` keep the loop's invariant and answer every need. Assumes nothing.
use Prim.Native.Nat.{◌-◌}
use lib.ListN.{length}
use Rattle.asciiaddress.proofs.Atoms.{Atoms}
use Rattle.asciiaddress.proofs.local_part.Given as goal

abbrev pub invariant-loop-i : goal.invariant-loop-i
invariant-loop-i l = Atoms l.s l.i

abbrev pub decreases-loop-i : goal.decreases-loop-i
decreases-loop-i l = length l.s - l.i
