use Rattle.datewords.proofs.Meant.{months}
use Rattle.datewords.proofs.meaning.month.Goals as goal

pub overflow_add-result : goal.overflow_add-result
overflow_add-result c = search (c.in_ok-k.was, months)

pub returns : goal.returns
returns c = search (c.in_ok-k.was, months)

pub returns-in_err-k : goal.returns-in_err-k
returns-in_err-k c = rw c.from_residual.ensures (search (c.in_err-k.was, months))
