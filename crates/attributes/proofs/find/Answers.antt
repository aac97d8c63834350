use Rattle.attributes.proofs.Finding.{finding}
use Rattle.attributes.proofs.find.Goals as goal

pub returns : goal.returns
returns c = search finding
