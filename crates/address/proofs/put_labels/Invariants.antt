use Rattle.std.proofs.Common.{ℕ, List, Option, ◌-◌, length}
use Rattle.address.specs.Answers.{Writes}
use Rattle.address.proofs.Joining.{Bounded, Joins}
use Rattle.address.proofs.put_labels.Given as goal

abbrev pub invariant-loop-put : goal.invariant-loop-put
invariant-loop-put g l =
    record {
      bounded : Bounded l.fn.out l.out l.s l.i l.to;
      joins : (text : List ℕ → Option (List ℕ)) → Writes (goal.F-post g l.put) text → Joins text l.fn.out l.out l.s l.from l.at l.i l.to;
    }

abbrev pub decreases-loop-put : goal.decreases-loop-put
decreases-loop-put g l = length l.initial.s - l.i
