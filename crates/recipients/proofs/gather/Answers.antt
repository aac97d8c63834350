use Rattle.std.proofs.Common.{rules}
use Rattle.recipients.proofs.RecipientRoll.{gather_begin, gather_end, gather_adds, gather_on}
use Rattle.recipients.proofs.gather.Goals as goal

pub loop-field-init : goal.loop-field-init
loop-field-init c = search (gather_begin, rules)

pub add_list-so_far-requires : goal.add_list-so_far-requires
add_list-so_far-requires c = search (gather_adds, c.in-Some.ensures, rules)

pub loop-field-preserved : goal.loop-field-preserved
loop-field-preserved c = search (gather_on, c.in-Some.ensures, rules)

pub returns : goal.returns
returns c = search (gather_end, c.in_default.ensures, rules)
