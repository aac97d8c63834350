use Rattle.convert.proofs.Looping.{Going}
use Rattle.convert.proofs.convert_slots.Given as goal

abbrev pub invariant-loop-i : goal.invariant-loop-i
invariant-loop-i l = Going l.initial.table l.table l.tags l.i
