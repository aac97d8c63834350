use Rattle.std.proofs.Common.{ℕ, Bool}
use Rattle.octets.specs.Tests.{Computes}
use Rattle.octets.proofs.Every.{Passed}
use Rattle.octets.proofs.all.Given as goal

abbrev pub invariant-loop-x : goal.invariant-loop-x
invariant-loop-x g l = (p : ℕ → Bool) → Computes (goal.F-post g l.test) p → Passed p l.s l.passed l.x-index
