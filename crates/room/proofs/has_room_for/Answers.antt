use Rattle.room.proofs.Newcomers.{counting}
use Rattle.room.proofs.has_room_for.Goals as goal

pub loop-heard-init : goal.loop-heard-init
loop-heard-init c = (search counting, search counting)

pub meet-requires : goal.meet-requires
meet-requires c = search counting

pub loop-heard-smaller : goal.loop-heard-smaller
loop-heard-smaller c = search counting

pub loop-heard-preserved : goal.loop-heard-preserved
loop-heard-preserved c = (search counting, search counting)
