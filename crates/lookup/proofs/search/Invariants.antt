use Rattle.table.specs.Table.{has_address}
use Rattle.table.proofs.Scanning.{Scan}
use Rattle.lookup.proofs.search.Given as goal

abbrev pub invariant-loop-i : goal.invariant-loop-i
invariant-loop-i l = Scan (has_address l.address) l.table l.n l.i
