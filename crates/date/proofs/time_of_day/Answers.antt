use Rattle.date.specs.Date.{time_of_day}
use Rattle.date.proofs.Parts.{parts}
use Rattle.date.proofs.time_of_day.Goals as goal

pub returns-in_err-seconds : goal.returns-in_err-seconds
unfolding time_of_day
returns-in_err-seconds c = search (parts, c.in_ok-hours.was, c.in_ok-colon.was, c.in_ok-minutes.was, c.in_err-seconds.was)

pub returns : goal.returns
unfolding time_of_day
returns c = search (parts, c.in_ok-hours.was, c.in_ok-colon.was, c.in_ok-minutes.was, c.in_ok-seconds.was)
