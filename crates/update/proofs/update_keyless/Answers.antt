use Rattle.update.proofs.Writing.{seeing}
use Rattle.update.proofs.Kept.{keeping}
use Rattle.update.proofs.update_keyless.Goals as goal

pub returns-then-not-has_younger-clause-table_after : goal.returns-then-not-has_younger-clause-table_after
returns-then-not-has_younger-clause-table_after c = search seeing

pub returns-then-not-has_younger-clause-fact : goal.returns-then-not-has_younger-clause-fact
returns-then-not-has_younger-clause-fact c = search keeping
