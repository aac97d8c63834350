use Rattle.outer.proofs.Senders.{sending}
use Rattle.outer.proofs.sender_of.Goals as goal

pub returns-clause-out_after : goal.returns-clause-out_after
returns-clause-out_after c = search (c.in_ok-field.ensures.result_value, c.in_ok-one.was, sending)

pub returns-in_err-one-clause-out_after : goal.returns-in_err-one-clause-out_after
returns-in_err-one-clause-out_after c = search (c.in_ok-field.ensures.result_value, c.in_err-one.was, sending)
