use Rattle.columns.proofs.Placing.{ending}
use Rattle.columns.proofs.put_text.Goals as goal

pub put-requires : goal.put-requires
put-requires c = search ending

pub returns : goal.returns
returns c = search ending
