use Rattle.fields.proofs.Walking.{walking}
use Rattle.fields.proofs.walk.Goals as goal

pub loop-name_end-init : goal.loop-name_end-init
loop-name_end-init c = search walking

pub loop-name_end-preserved : goal.loop-name_end-preserved
loop-name_end-preserved c = search walking
