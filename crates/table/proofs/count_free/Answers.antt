use Rattle.table.proofs.Scanning.{tallying}
use Rattle.table.proofs.count_free.Goals as goal
use Rattle.table.proofs.count_free.Goals.{then-not-is_used, else-not-is_used}

pub loop-i-preserved : goal.loop-i-preserved
loop-i-preserved c =
    elim c.if-not-is_used.branch [
      | then-not-is_used w ↦ rw w.many-is (search tallying)
      | else-not-is_used w ↦ rw w.many-is (search tallying)
    ]

pub returns : goal.returns
returns c = search tallying
