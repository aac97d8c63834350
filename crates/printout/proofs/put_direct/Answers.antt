use Rattle.printout.proofs.Placing.{directing}
use Rattle.printout.proofs.put_direct.Goals as goal

pub put_time-timed-requires : goal.put_time-timed-requires
put_time-timed-requires c = search directing

pub put_number-measured-requires : goal.put_number-measured-requires
put_number-measured-requires c = search directing

pub put_preference-requires : goal.put_preference-requires
put_preference-requires c = search directing

pub returns : goal.returns
returns c = search directing
