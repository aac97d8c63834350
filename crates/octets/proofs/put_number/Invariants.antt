use Rattle.std.proofs.Common.{◌-◌}
use Rattle.octets.specs.Numbers.{digits}
use Rattle.octets.proofs.Writing.{Wrote}
use Rattle.octets.proofs.put_number.Given as goal

abbrev pub invariant-loop-place : goal.invariant-loop-place
invariant-loop-place l =
    Wrote (digits l.width l.n) l.initial.place-items l.place-items l.place-index (digits (l.width - l.place-index) l.rest)
