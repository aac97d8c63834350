use borrow.Author.Rules.{rules}
use Rattle.recipients.proofs.RecipientRoll.{gathered_tags, gathered_places}
use Rattle.process.proofs.Processing.{rolling}
use Rattle.process.proofs.deliver_carrying.Goals as goal

pub gather-rolled-requires : goal.gather-rolled-requires
gather-rolled-requires c = search rolling

pub slice_bounds-deliver-end-2 : goal.slice_bounds-deliver-end-2
slice_bounds-deliver-end-2 c = search (gathered_tags, rules)

pub slice_bounds-deliver-end-3 : goal.slice_bounds-deliver-end-3
slice_bounds-deliver-end-3 c = search (gathered_places, rules)
