use Rattle.table.specs.Table.{unused}
use Rattle.table.proofs.Scanning.{Scan}
use Rattle.table.proofs.lowest_free.Given as goal

abbrev pub invariant-loop-i : goal.invariant-loop-i
invariant-loop-i l = Scan unused l.table l.i-end l.i
