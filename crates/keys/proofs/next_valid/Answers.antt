use Rattle.keys.proofs.ValidFields.{trying}
use Rattle.keys.proofs.next_valid.Goals as goal

pub slice_bounds-valid_for-end : goal.slice_bounds-valid_for-end
slice_bounds-valid_for-end c = search trying

pub loop-length-smaller : goal.loop-length-smaller
loop-length-smaller c = search trying

pub loop-length-preserved : goal.loop-length-preserved
loop-length-preserved c = (search trying, search trying)
