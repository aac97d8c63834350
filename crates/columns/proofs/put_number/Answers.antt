use Rattle.columns.proofs.Placing.{ending}
use Rattle.columns.proofs.put_number.Goals as goal

pub put_decimal-o-requires : goal.put_decimal-o-requires
put_decimal-o-requires c = search ending

pub returns : goal.returns
returns c = search ending
