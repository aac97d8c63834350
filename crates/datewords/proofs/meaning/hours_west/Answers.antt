use Rattle.datewords.proofs.Meant.{hours}
use Rattle.datewords.proofs.meaning.hours_west.Goals as goal

pub offset_bounds-k : goal.offset_bounds-k
offset_bounds-k c = search hours

pub bounds-k : goal.bounds-k
bounds-k c = search hours
