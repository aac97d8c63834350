use Rattle.lookup.proofs.Checking.{judging}
use Rattle.lookup.proofs.check.Goals as goal

pub loop-i-init : goal.loop-i-init
loop-i-init c = record { judged = search judging; tagged = search judging }

pub returns-then-not-is_right : goal.returns-then-not-is_right
returns-then-not-is_right c = search judging
