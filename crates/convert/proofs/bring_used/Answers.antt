use Rattle.convert.proofs.Bringing.{bringing_used}
use Rattle.convert.proofs.bring_used.Goals as goal

pub settle-requires : goal.settle-requires
settle-requires c = search bringing_used

pub returns-in-Some : goal.returns-in-Some
returns-in-Some c = search bringing_used
