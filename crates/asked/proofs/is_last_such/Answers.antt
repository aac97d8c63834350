use Rattle.asked.proofs.Finding.{ending}
use Rattle.asked.proofs.is_last_such.Goals as goal

pub returns : goal.returns
returns c = search ending
