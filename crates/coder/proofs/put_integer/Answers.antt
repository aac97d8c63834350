use Rattle.coder.proofs.Digits.{going}
use Rattle.coder.proofs.put_integer.Goals as goal

pub returns : goal.returns
returns c = search going
