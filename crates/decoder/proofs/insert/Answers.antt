use Rattle.decoder.proofs.Inserting.{inserting}
use Rattle.decoder.proofs.insert.Goals as goal

pub returns : goal.returns
returns c = rw c.copy_within.ensures.after (inserting _ _ _ _ c.requires.0 c.requires.1)
