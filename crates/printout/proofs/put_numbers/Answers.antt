use Rattle.printout.proofs.Placing.{numbering}
use Rattle.printout.proofs.put_numbers.Goals as goal

pub put_time-seen-requires : goal.put_time-seen-requires
put_time-seen-requires c = search numbering

pub put_direct-direct-requires : goal.put_direct-direct-requires
put_direct-direct-requires c = search numbering

pub put_gossip-requires : goal.put_gossip-requires
put_gossip-requires c = search numbering

pub returns : goal.returns
returns c = search numbering
