use Rattle.update.proofs.Writing.{hearing}
use Rattle.update.proofs.Kept.{keeping}
use Rattle.update.proofs.hear.Goals as goal

pub returns-then-not-has_younger_gossip-clause-table_after : goal.returns-then-not-has_younger_gossip-clause-table_after
returns-then-not-has_younger_gossip-clause-table_after c = search hearing

pub returns-then-not-has_younger_gossip-clause-fact : goal.returns-then-not-has_younger_gossip-clause-fact
returns-then-not-has_younger_gossip-clause-fact c = search keeping
