use Rattle.message.proofs.Judging.{judging}
use Rattle.message.proofs.judge_payload.Goals as goal
use Rattle.message.proofs.judge_payload.Goals.{then-not-is_taken-via-then-not-is_taken, then-not-is_taken-via-else-not-is_taken+then-is_empty}

pub returns-then-not-is_taken : goal.returns-then-not-is_taken
returns-then-not-is_taken c =
    elim c.then-not-is_taken.branch [
      | then-not-is_taken-via-then-not-is_taken w ↦ search judging
      | then-not-is_taken-via-else-not-is_taken+then-is_empty w ↦ search judging
    ]

pub returns-then-readable : goal.returns-then-readable
returns-then-readable c = search judging

pub returns-else-readable : goal.returns-else-readable
returns-else-readable c = search judging
