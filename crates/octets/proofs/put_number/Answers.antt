use Rattle.octets.proofs.Copying.{numbering}
use Rattle.octets.proofs.put_number.Goals as goal

pub loop-place-preserved : goal.loop-place-preserved
loop-place-preserved c = search numbering
