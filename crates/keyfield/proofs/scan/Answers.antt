use Rattle.keyfield.proofs.Scanning.{scanning}
use Rattle.keyfield.proofs.scan.Goals as goal

pub returns-then-s-end : goal.returns-then-s-end
returns-then-s-end c = search scanning

pub loop-seen-preserved : goal.loop-seen-preserved
loop-seen-preserved c = search scanning

pub returns-then-end-s : goal.returns-then-end-s
returns-then-end-s c = search scanning

pub returns-in-Last : goal.returns-in-Last
returns-in-Last c = search scanning
