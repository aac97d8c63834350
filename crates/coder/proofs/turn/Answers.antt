use Rattle.coder.proofs.Passing.{turning}
use Rattle.coder.proofs.turn.Goals as goal

pub returns : goal.returns
returns c = search turning

pub returns-then-c-n : goal.returns-then-c-n
returns-then-c-n c = search turning

pub returns-then-n-c : goal.returns-then-n-c
returns-then-n-c c = search turning
