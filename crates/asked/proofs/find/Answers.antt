use Rattle.asked.proofs.Finding.{seeking}
use Rattle.asked.proofs.find.Goals as goal

pub loop-what-preserved : goal.loop-what-preserved
loop-what-preserved c = search seeking
