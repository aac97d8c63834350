use Rattle.datewords.proofs.Finding.{finding}
use Rattle.datewords.proofs.token.token.Goals as goal

pub returns-then-s-from-clause-result_value : goal.returns-then-s-from-clause-result_value
returns-then-s-from-clause-result_value c = search finding
