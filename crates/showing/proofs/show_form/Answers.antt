use Rattle.showing.proofs.Laying.{showing_form}
use Rattle.showing.proofs.show_form.Goals as goal

pub returns-clause-value : goal.returns-clause-value
returns-clause-value c = search (c.in_ok-n.was, showing_form)

pub returns-clause-out_after : goal.returns-clause-out_after
returns-clause-out_after c = search (c.in_ok-n.was, showing_form)
