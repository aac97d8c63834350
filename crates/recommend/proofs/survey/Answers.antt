use Rattle.recommend.proofs.Surveying.{surveying}
use Rattle.recommend.proofs.survey.Goals as goal

pub returns-then-count-eq-MOST_RECIPIENTS : goal.returns-then-count-eq-MOST_RECIPIENTS
returns-then-count-eq-MOST_RECIPIENTS c = search surveying

pub loop-from-preserved-then-ne : goal.loop-from-preserved-then-ne
loop-from-preserved-then-ne c = search surveying

pub returns-then-count-eq0 : goal.returns-then-count-eq0
returns-then-count-eq0 c = search surveying

pub returns-in-End : goal.returns-in-End
returns-in-End c = search surveying

pub returns-in-Unreadable : goal.returns-in-Unreadable
returns-in-Unreadable c = search surveying
