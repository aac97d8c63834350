use borrow.Author.Rules.{rules}
use Rattle.delivery.proofs.Spreading.{spreading, hearing}
use Rattle.delivery.proofs.hear_all.Goals as goal

pub loop-heard-init : goal.loop-heard-init
loop-heard-init c = (search spreading, search rules, search rules)

pub slice_bounds-hear-end : goal.slice_bounds-hear-end
slice_bounds-hear-end c = search spreading

pub slice_bounds-hear-end-in-Some : goal.slice_bounds-hear-end-in-Some
slice_bounds-hear-end-in-Some c = search spreading

pub hear-requires : goal.hear-requires
hear-requires c = search hearing

pub loop-heard-preserved : goal.loop-heard-preserved
loop-heard-preserved c = (search spreading, search rules, search rules)
