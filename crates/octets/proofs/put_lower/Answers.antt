use Rattle.octets.proofs.Copying.{making_small}
use Rattle.octets.proofs.put_lower.Goals as goal

pub loop-i-init : goal.loop-i-init
loop-i-init c = search making_small

pub loop-i-preserved : goal.loop-i-preserved
loop-i-preserved c = search making_small

pub returns : goal.returns
returns c = search making_small
