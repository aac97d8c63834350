use Rattle.table.proofs.Scanning.{Tally}
use Rattle.table.proofs.count_free.Given as goal

abbrev pub invariant-loop-i : goal.invariant-loop-i
invariant-loop-i l = Tally l.table l.i-end l.many l.i
