use Rattle.printout.proofs.Placing.{gossiping}
use Rattle.printout.proofs.put_gossip.Goals as goal

pub put_time-timed-requires : goal.put_time-timed-requires
put_time-timed-requires c = search gossiping

pub put_number-requires : goal.put_number-requires
put_number-requires c = search gossiping

pub returns : goal.returns
returns c = search gossiping
