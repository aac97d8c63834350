use Rattle.decoder.proofs.Stepping.{stepping}
use Rattle.decoder.proofs.read_one.Goals as goal

pub returns-in_default : goal.returns-in_default
returns-in_default c = search stepping

pub returns-then-s-sum : goal.returns-then-s-sum
returns-then-s-sum c = search stepping

pub returns-then-d-t : goal.returns-then-d-t
returns-then-d-t c = search stepping

pub returns : goal.returns
returns c = search stepping
