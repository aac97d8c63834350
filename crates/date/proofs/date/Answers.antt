use Rattle.date.specs.Date.{date_of}
use Rattle.date.proofs.Parts.{dating}
use Rattle.date.proofs.date.Goals as goal

pub returns-in_default-local_time : goal.returns-in_default-local_time
unfolding date_of
returns-in_default-local_time c = search dating

pub returns-in_default-zoned : goal.returns-in_default-zoned
unfolding date_of
returns-in_default-zoned c = search dating

pub returns : goal.returns
unfolding date_of
returns c = search dating
