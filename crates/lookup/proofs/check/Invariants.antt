use Rattle.table.specs.Tagged.{TaggedTo}
use Rattle.lookup.proofs.Checking.{Judged}
use Rattle.lookup.proofs.check.Given as goal

abbrev pub invariant-loop-i : goal.invariant-loop-i
invariant-loop-i l = record { judged : Judged l.how l.table l.i-end l.i; tagged : TaggedTo l.table l.tags l.i }
