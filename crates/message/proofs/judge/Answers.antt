use Rattle.message.proofs.Judging.{judge_report}
use Rattle.message.proofs.judge.Goals as goal

pub returns-then-is_report : goal.returns-then-is_report
returns-then-is_report c = search judge_report
