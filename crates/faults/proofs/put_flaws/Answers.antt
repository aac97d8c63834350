use Rattle.std.proofs.Common.{arith}
use Rattle.faults.proofs.Putting.{laid_begin, laid_room, laid_turn, laid_place, laid_all}
use Rattle.faults.proofs.put_flaws.Goals as goal

pub loop-kind-init : goal.loop-kind-init
loop-kind-init c = laid_begin _ _ _ _ _ c.requires

pub put_fault-to-requires : goal.put_fault-to-requires
put_fault-to-requires c = laid_room _ _ _ _ _ _ _ _ c.loop-kind.invariant

pub loop-kind-preserved : goal.loop-kind-preserved
loop-kind-preserved c = laid_turn _ _ _ _ _ _ _ _ c.loop-kind.invariant c.loop-kind-test.true _ _ c.put_fault-to.ensures.value c.put_fault-to.ensures.list_after

pub returns-clause-value : goal.returns-clause-value
returns-clause-value c = laid_place _ _ _ _ _ _ _ _ c.loop-kind.invariant (omega arith)

pub returns-clause-list_after : goal.returns-clause-list_after
returns-clause-list_after c = laid_all _ _ _ _ _ _ _ _ c.loop-kind.invariant (omega arith)
