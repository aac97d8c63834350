use Rattle.room.proofs.Newcomers.{seating}
use Rattle.room.proofs.has_room.Goals as goal

pub meet-requires : goal.meet-requires
meet-requires c = search seating

pub returns-in_default : goal.returns-in_default
returns-in_default c = search seating

pub returns : goal.returns
returns c = search seating
