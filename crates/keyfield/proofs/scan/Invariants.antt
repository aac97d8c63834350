use Rattle.std.proofs.Common.{◌-◌, length}
use Rattle.keyfield.proofs.Scanning.{Scanning}
use Rattle.keyfield.proofs.scan.Given as goal

abbrev pub invariant-loop-seen : goal.invariant-loop-seen
invariant-loop-seen l = Scanning l.s l.at l.address l.preference

abbrev pub decreases-loop-seen : goal.decreases-loop-seen
decreases-loop-seen l = length l.s - l.at
