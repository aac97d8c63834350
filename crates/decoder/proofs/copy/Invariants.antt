use Rattle.std.proofs.Common.{◌≡◌, ◌++◌, take, drop}
use Rattle.decoder.proofs.copy.Given as goal

abbrev pub invariant-loop-i : goal.invariant-loop-i
invariant-loop-i l = l.out ≡ take l.i l.text ++ drop l.i l.fn.out
