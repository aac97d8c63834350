use Rattle.merge.proofs.Parts.{merging}
use Rattle.merge.proofs.merge.Goals as goal

pub returns : goal.returns
returns c = search merging
