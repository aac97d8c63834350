use Rattle.writer.proofs.Placing.{opening_up}
use Rattle.writer.proofs.put_opening.Goals as goal

pub returns-clause-value : goal.returns-clause-value
returns-clause-value c = search opening_up
