use Rattle.convert.proofs.Looping.{going}
use Rattle.convert.proofs.convert_slots.Goals as goal

pub bring-requires : goal.bring-requires
bring-requires c = search going

pub tag_at-requires : goal.tag_at-requires
tag_at-requires c = search going

pub loop-i-preserved : goal.loop-i-preserved
loop-i-preserved c = search going
