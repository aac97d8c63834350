use Rattle.refusals.proofs.Rows.{denied_passes, unless_passes, unless_refuses}
use Rattle.write.proofs.Writing.{key_good, field_long, nothing_there}
use Rattle.write.specs.Writing.{writing_rows, refused_writing, left_by_writing}
use Rattle.write.proofs.write.Goals as goal

pub returns-in-None-clause-out_after : goal.returns-in-None-clause-out_after
unfolding writing_rows refused_writing left_by_writing
returns-in-None-clause-out_after c = search (denied_passes, unless_passes, unless_refuses, key_good, field_long, nothing_there)
