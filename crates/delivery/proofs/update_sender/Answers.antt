use Rattle.delivery.proofs.Updating.{updating}
use Rattle.delivery.proofs.update_sender.Goals as goal

pub returns-in-Some-clause-table_after : goal.returns-in-Some-clause-table_after
returns-in-Some-clause-table_after c = search updating
