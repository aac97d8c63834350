use Rattle.std.proofs.Common.{◌-◌, length}
use Rattle.recommend.proofs.Surveying.{Surveying}
use Rattle.recommend.proofs.survey.Given as goal

abbrev pub invariant-loop-from : goal.invariant-loop-from
invariant-loop-from l = Surveying l.table l.recipients l.mutual l.reply l.least l.count l.looked_up l.here

abbrev pub decreases-loop-from : goal.decreases-loop-from
decreases-loop-from l = length l.recipients - l.here.at
