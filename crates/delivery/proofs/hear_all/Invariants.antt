use Rattle.std.proofs.Common.{◌≡◌, ◌-◌, length}
use Rattle.delivery.proofs.Spreading.{Spreads}
use Rattle.delivery.proofs.hear_all.Given as goal

abbrev pub invariant-loop-heard : goal.invariant-loop-heard
invariant-loop-heard l =
    (Spreads l.limit l.date l.recipients l.payload l.fn.table l.table l.tags l.at)
    × (length l.table ≡ length l.fn.table)
    × (length l.text ≡ length l.fn.text)

abbrev pub decreases-loop-heard : goal.decreases-loop-heard
decreases-loop-heard l = length l.payload - l.at
