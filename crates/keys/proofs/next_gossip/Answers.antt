use Rattle.keys.proofs.GossipFields.{hearing}
use Rattle.keys.proofs.next_gossip.Goals as goal

pub take_value-requires : goal.take_value-requires
take_value-requires c = search hearing

pub slice_bounds-value-end : goal.slice_bounds-value-end
slice_bounds-value-end c = search hearing

pub loop-length-smaller : goal.loop-length-smaller
loop-length-smaller c = search hearing

pub loop-length-preserved : goal.loop-length-preserved
loop-length-preserved c = (search hearing, search hearing)
