use Rattle.utf8.proofs.Walking.{writing_small}
use Rattle.utf8.proofs.put_octetwise.Goals as goal

pub loop-i-init : goal.loop-i-init
loop-i-init c = search writing_small

pub loop-i-preserved : goal.loop-i-preserved
loop-i-preserved c = search writing_small

pub returns : goal.returns
returns c = search writing_small
