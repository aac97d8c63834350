use Rattle.update.proofs.Writing.{keying}
use Rattle.update.proofs.Kept.{keeping}
use Rattle.update.proofs.update_with_key.Goals as goal

pub returns-then-not-has_younger-clause-table_after : goal.returns-then-not-has_younger-clause-table_after
returns-then-not-has_younger-clause-table_after c = search keying

pub returns-then-not-has_younger-clause-fact : goal.returns-then-not-has_younger-clause-fact
returns-then-not-has_younger-clause-fact c = search keeping
