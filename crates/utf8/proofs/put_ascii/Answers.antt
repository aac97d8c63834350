use Rattle.utf8.proofs.Walking.{making_ascii}
use Rattle.utf8.proofs.put_ascii.Goals as goal

pub loop-i-init : goal.loop-i-init
loop-i-init c = record { ascii = search making_ascii; copied = search making_ascii }

pub loop-i-preserved : goal.loop-i-preserved
loop-i-preserved c = record { ascii = search making_ascii; copied = search making_ascii }

pub returns-clause-out_after : goal.returns-clause-out_after
returns-clause-out_after c = search making_ascii
