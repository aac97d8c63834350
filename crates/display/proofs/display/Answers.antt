use Rattle.refusals.proofs.Rows.{denied_passes, unless_refuses}
use Rattle.write.proofs.Writing.{field_long, nothing_there}
use Rattle.display.specs.Displaying.{displaying_rows, refused_displaying, left_by_displaying}
use Rattle.display.proofs.display.Goals as goal

pub returns-in-None-clause-out_after : goal.returns-in-None-clause-out_after
unfolding displaying_rows refused_displaying left_by_displaying
returns-in-None-clause-out_after c = search (denied_passes, unless_refuses, field_long, nothing_there)
