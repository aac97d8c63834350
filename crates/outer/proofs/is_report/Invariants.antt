use Rattle.std.proofs.Common.{length, ◌-◌}
use Rattle.outer.proofs.Reports.{Looking}
use Rattle.outer.proofs.is_report.Given as goal

abbrev pub invariant-loop-field : goal.invariant-loop-field
invariant-loop-field l = Looking l.block l.at

abbrev pub decreases-loop-field : goal.decreases-loop-field
decreases-loop-field l = length l.block - l.at
