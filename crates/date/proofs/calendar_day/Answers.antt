use Rattle.date.specs.Date.{calendar_day}
use Rattle.date.proofs.Parts.{parts}
use Rattle.date.proofs.calendar_day.Goals as goal

pub returns : goal.returns
unfolding calendar_day
returns c = search (parts, c.in_ok-value.was, c.in_ok-day.was, c.in_ok-month.was, c.in_ok-year.was)

pub returns-in_err-value : goal.returns-in_err-value
unfolding calendar_day
returns-in_err-value c = rw c.from_residual-in_err-value.ensures (search (parts, c.in_err-value.was, c.in_ok-day.was, c.in_ok-month.was, c.in_ok-year.was))
