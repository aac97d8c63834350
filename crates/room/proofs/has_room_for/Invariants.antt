use Rattle.std.proofs.Common.{◌≡◌, ◌-◌, length}
use Rattle.roll.specs.Growing.{in_roll}
use Rattle.room.proofs.Newcomers.{Counts}
use Rattle.room.proofs.has_room_for.Given as goal

abbrev pub invariant-loop-heard : goal.invariant-loop-heard
invariant-loop-heard l =
    Counts l.table l.free l.limit l.recipients l.payload (in_roll l.fn.from l.fn.known) l.known l.numbers l.spots l.at l.place
    × (length l.text ≡ length l.fn.text)

abbrev pub decreases-loop-heard : goal.decreases-loop-heard
decreases-loop-heard l = length l.payload - l.place
