use Rattle.roll.proofs.Looking.{looking}
use Rattle.roll.proofs.holds.Goals as goal

pub loop-i-init : goal.loop-i-init
loop-i-init c = search looking

pub loop-i-preserved : goal.loop-i-preserved
loop-i-preserved c = search looking

pub returns : goal.returns
returns c = search looking
