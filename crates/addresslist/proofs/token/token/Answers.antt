use Rattle.addresslist.proofs.Finding.{finding}
use Rattle.addresslist.proofs.token.token.Goals as goal

pub returns-then-list-from-clause-result_value : goal.returns-then-list-from-clause-result_value
returns-then-list-from-clause-result_value c = search finding
