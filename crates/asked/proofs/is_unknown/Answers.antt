use Rattle.asked.proofs.Naming.{knowing}
use Rattle.asked.proofs.is_unknown.Goals as goal

pub returns-in-Unknown : goal.returns-in-Unknown
returns-in-Unknown c = search knowing

pub returns-in_default : goal.returns-in_default
returns-in_default c = search knowing

pub returns-else-not-is_empty : goal.returns-else-not-is_empty
returns-else-not-is_empty c = search knowing
