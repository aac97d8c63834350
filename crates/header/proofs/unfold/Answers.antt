use Rattle.header.proofs.LineByLine.{unfolds}
use Rattle.header.proofs.unfold.Goals as goal

pub slice_bounds-put-end : goal.slice_bounds-put-end
slice_bounds-put-end c = search unfolds

pub overflow_add-i : goal.overflow_add-i
overflow_add-i c = search unfolds

pub loop-i-preserved : goal.loop-i-preserved
loop-i-preserved c = search unfolds

pub returns-clause-value : goal.returns-clause-value
returns-clause-value c = search unfolds

pub returns-clause-out_after : goal.returns-clause-out_after
returns-clause-out_after c = search unfolds
