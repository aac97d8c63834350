use Rattle.lookover.proofs.Walking.{walking}
use Rattle.lookover.proofs.look_over.Goals as goal

pub loop-name_end-init : goal.loop-name_end-init
loop-name_end-init c = (search walking, search walking)

pub returns-in-Over : goal.returns-in-Over
returns-in-Over c = search walking
