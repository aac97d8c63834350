use Rattle.std.proofs.Common.{rules}
use Rattle.table.specs.Table.{has_address}
use Rattle.lookup.proofs.Searching.{opening_differs}
use Rattle.lookup.proofs.holds.Goals as goal

pub returns-then-own-address : goal.returns-then-own-address
unfolding has_address
returns-then-own-address c = opening_differs _ _ _ c.address_of-own.ensures (search rules) c.if-own-address.true
