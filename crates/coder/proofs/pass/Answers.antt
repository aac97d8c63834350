use Rattle.coder.proofs.Passing.{walking, walk_next}
use Rattle.coder.proofs.pass.Goals as goal

pub loop-c-init : goal.loop-c-init
loop-c-init c = search walking

pub loop-c-preserved : goal.loop-c-preserved
loop-c-preserved c = walk_next _ _ _ _ _ _ _ _ c.loop-c.invariant _ c.from.ensures c.loop-c-test.true _ _ _ c.in_ok-t.was c.turn.ensures

pub returns : goal.returns
returns c = search walking
