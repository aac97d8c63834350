use Rattle.lookup.proofs.Checking.{being_right}
use Rattle.lookup.proofs.is_right.Goals as goal

pub returns-then-not-is_marked : goal.returns-then-not-is_marked
returns-then-not-is_marked c = search being_right
