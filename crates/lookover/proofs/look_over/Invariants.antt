use Rattle.std.proofs.Common.{◌≡◌, ◌-◌, length}
use Rattle.roll.specs.Roll.{unrolled}
use Rattle.lookover.proofs.Walking.{Walked}
use Rattle.lookover.proofs.look_over.Given as goal

abbrev pub invariant-loop-name_end : goal.invariant-loop-name_end
invariant-loop-name_end l =
    Walked l.side l.sender (unrolled l.recipients) l.block l.fn.list l.at l.list l.start l.place l.seen l.to
    × (length l.text ≡ length l.fn.text)

abbrev pub decreases-loop-name_end : goal.decreases-loop-name_end
decreases-loop-name_end l = length l.block - l.start
