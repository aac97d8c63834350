use Rattle.recommend.proofs.Recommending.{recommending}
use Rattle.recommend.proofs.recommend_quick.Goals as goal

pub returns-in-Some-clause-answer_value : goal.returns-in-Some-clause-answer_value
returns-in-Some-clause-answer_value c = search recommending

pub returns-in-Err-clause-answer_value : goal.returns-in-Err-clause-answer_value
returns-in-Err-clause-answer_value c = search recommending
