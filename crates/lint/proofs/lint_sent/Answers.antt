use borrow.Author.Rules.{rules}
use Rattle.recipients.proofs.RecipientRoll.{gathered_tags, gathered_places}
use Rattle.lint.proofs.Calling.{sending, finishing}
use Rattle.lint.proofs.lint_sent.Goals as goal

pub gather-rolled-requires : goal.gather-rolled-requires
gather-rolled-requires c = search sending

pub list_faults-requires : goal.list_faults-requires
list_faults-requires c = search sending

pub returns-clause-value : goal.returns-clause-value
returns-clause-value c = search finishing

pub returns-clause-list_after : goal.returns-clause-list_after
returns-clause-list_after c = search finishing

pub slice_bounds-mail-end-2 : goal.slice_bounds-mail-end-2
slice_bounds-mail-end-2 c = search (gathered_tags, rules)

pub slice_bounds-mail-end-3 : goal.slice_bounds-mail-end-3
slice_bounds-mail-end-3 c = search (gathered_places, rules)
