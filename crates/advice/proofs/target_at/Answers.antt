use Rattle.advice.proofs.Targets.{reaching}
use Rattle.advice.proofs.target_at.Goals as goal

pub loop-from-init : goal.loop-from-init
loop-from-init c = search reaching

pub returns-then-left-eq0 : goal.returns-then-left-eq0
returns-then-left-eq0 c = search reaching

pub loop-from-preserved : goal.loop-from-preserved
loop-from-preserved c = search reaching
