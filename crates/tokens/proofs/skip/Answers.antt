use Rattle.tokens.proofs.Skipping.{skipping}
use Rattle.tokens.proofs.skip.Goals as goal

pub returns : goal.returns
returns c = search skipping
