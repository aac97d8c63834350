use Rattle.labels.proofs.Writing.{putting_label}
use Rattle.labels.proofs.put_label.Goals as goal

pub returns-then-not-judged : goal.returns-then-not-judged
returns-then-not-judged c = search putting_label
