use Rattle.update.proofs.Placing.{placing}
use Rattle.update.proofs.place.Goals as goal

pub returns-clause-table_after : goal.returns-clause-table_after
returns-clause-table_after c = search (c.in_ok-i.was, placing)

pub returns-clause-fact : goal.returns-clause-fact
returns-clause-fact c = search (c.in_ok-i.was, placing)
