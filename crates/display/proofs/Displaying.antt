-- The call `display`: what the tests of the code say of the rows.
--     the ruleset    displaying, for `display`
-- Assumes nothing.
use borrow.Author.Rules.{rules}
use Rattle.refusals.proofs.Rows.{denied_refuses, denied_passes, unless_refuses, unless_passes, no_row}
use Rattle.write.proofs.Writing.{field_fits, field_done, field_there, field_long, nothing_there}

pub ruleset displaying = (
  denied_refuses,
  denied_passes,
  unless_refuses,
  unless_passes,
  field_fits,
  field_done,
  field_there,
  field_long,
  nothing_there,
  no_row,
  rules,
)
