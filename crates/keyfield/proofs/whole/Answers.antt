use Rattle.keyfield.proofs.Ending.{ending}
use Rattle.keyfield.proofs.whole.Goals as goal

pub returns : goal.returns
returns c = search (ending, c.in_ok-address.was)
