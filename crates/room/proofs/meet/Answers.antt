use Rattle.room.proofs.Meeting.{meeting}
use Rattle.room.proofs.meet.Goals as goal

pub returns-then-not-is_new-clause-met_as : goal.returns-then-not-is_new-clause-met_as
returns-then-not-is_new-clause-met_as c = search meeting

pub add-requires : goal.add-requires
add-requires c = search meeting

pub returns-clause-met_as : goal.returns-clause-met_as
returns-clause-met_as c = search meeting
