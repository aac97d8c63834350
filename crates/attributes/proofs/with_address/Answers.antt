use Rattle.attributes.proofs.Stepping.{addressing}
use Rattle.attributes.proofs.with_address.Goals as goal

pub returns-then-is_some : goal.returns-then-is_some
returns-then-is_some c = search addressing

pub returns-then-is_plain : goal.returns-then-is_plain
returns-then-is_plain c = search addressing

pub returns-else-is_plain : goal.returns-else-is_plain
returns-else-is_plain c = search addressing
