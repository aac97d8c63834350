use Rattle.process.proofs.Processing.{reading_alone, reading_carrying, refusing}
use Rattle.process.proofs.process_with.Goals as goal

pub deliver_alone-requires : goal.deliver_alone-requires
deliver_alone-requires g c = search reading_alone

pub deliver_carrying-requires : goal.deliver_carrying-requires
deliver_carrying-requires g c = search (reading_carrying, c.requires)

pub returns-in-Alone-clause-value : goal.returns-in-Alone-clause-value
returns-in-Alone-clause-value g c = search reading_alone

pub returns-in-Alone-clause-table_after : goal.returns-in-Alone-clause-table_after
returns-in-Alone-clause-table_after g c = search reading_alone

pub returns-in-Carrying-clause-value : goal.returns-in-Carrying-clause-value
returns-in-Carrying-clause-value g c = search (reading_carrying, c.requires)

pub returns-in-Carrying-clause-table_after : goal.returns-in-Carrying-clause-table_after
returns-in-Carrying-clause-table_after g c = search (reading_carrying, c.requires)

pub returns-in-Refused-clause-value : goal.returns-in-Refused-clause-value
returns-in-Refused-clause-value g c = search refusing

pub returns-in-Refused-clause-table_after : goal.returns-in-Refused-clause-table_after
returns-in-Refused-clause-table_after g c = search refusing
