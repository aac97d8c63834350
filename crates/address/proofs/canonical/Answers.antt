use Rattle.address.proofs.Making.{writing_canonical}
use Rattle.address.proofs.canonical.Goals as goal

pub returns-clause-value : goal.returns-clause-value
returns-clause-value c = search (c.in_ok-n.was, writing_canonical)

pub returns-clause-out_after : goal.returns-clause-out_after
returns-clause-out_after c = search (c.in_ok-n.was, writing_canonical)

pub returns-in_err-n-clause-value : goal.returns-in_err-n-clause-value
returns-in_err-n-clause-value c = rw c.from_residual.ensures (search (c.in_err-n.was, writing_canonical))

pub returns-in_err-n-clause-out_after : goal.returns-in_err-n-clause-out_after
returns-in_err-n-clause-out_after c = search (c.in_err-n.was, writing_canonical)
