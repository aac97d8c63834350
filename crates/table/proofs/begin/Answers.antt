use Rattle.table.proofs.Slots.{lending}
use Rattle.table.proofs.Tags.{begin_room}
use Rattle.table.proofs.begin.Goals as goal

pub begin-requires : goal.begin-requires
begin-requires c = (search lending, search (begin_room, lending))
