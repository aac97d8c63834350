use Rattle.coder.proofs.Coding.{basics}
use Rattle.coder.proofs.put_basics.Goals as goal

pub returns-in_err-at : goal.returns-in_err-at
returns-in_err-at c = rw c.from_residual.ensures (search (c.in_err-at.was, basics))
