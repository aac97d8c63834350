use Rattle.lookover.proofs.Judging.{judging_own}
use Rattle.lookover.proofs.judge_own.Goals as goal

pub returns-then-is_some : goal.returns-then-is_some
returns-then-is_some c = search judging_own

pub returns : goal.returns
returns c = search judging_own
