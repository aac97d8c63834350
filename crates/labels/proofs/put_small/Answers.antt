use Rattle.labels.proofs.Writing.{putting_small}
use Rattle.labels.proofs.put_small.Goals.{then-s-gt-LONGEST_LABEL-via-then-s-gt-LONGEST_LABEL, then-s-gt-LONGEST_LABEL-via-else-s-gt-LONGEST_LABEL+then-out-at}
use Rattle.labels.proofs.put_small.Goals as goal

pub returns-then-s-gt-LONGEST_LABEL : goal.returns-then-s-gt-LONGEST_LABEL
returns-then-s-gt-LONGEST_LABEL c = elim c.then-s-gt-LONGEST_LABEL.branch [ then-s-gt-LONGEST_LABEL-via-then-s-gt-LONGEST_LABEL w ↦ search putting_small | then-s-gt-LONGEST_LABEL-via-else-s-gt-LONGEST_LABEL+then-out-at w ↦ search putting_small ]
