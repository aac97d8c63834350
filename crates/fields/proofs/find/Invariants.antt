use Rattle.std.proofs.Common.{length, ◌-◌}
use Rattle.fields.proofs.Finding.{Seeking}
use Rattle.fields.proofs.find.Given as goal

abbrev pub invariant-loop-place : goal.invariant-loop-place
invariant-loop-place l = Seeking l.kind l.block l.at l.place

abbrev pub decreases-loop-place : goal.decreases-loop-place
decreases-loop-place l = length l.block - l.place
