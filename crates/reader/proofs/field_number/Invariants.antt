use Rattle.reader.proofs.Handing.{Ahead}
use Rattle.reader.proofs.field_number.Given as goal

abbrev pub invariant-loop : goal.invariant-loop
invariant-loop l = Ahead l.block 0 l.k l.at l.counter
