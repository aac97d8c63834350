use Rattle.codepoints.proofs.Encoding.{writing}
use Rattle.codepoints.proofs.write.Goals as goal

pub returns-in-None : goal.returns-in-None
returns-in-None c = search writing
