use Rattle.recommend.specs.Recommending.{refused_recommending, recommending_rows}
use Rattle.recommend.proofs.Recommending.{admitting}
use Rattle.recommend.proofs.admit.Goals as goal

pub returns-in-Err : goal.returns-in-Err
unfolding refused_recommending recommending_rows
returns-in-Err c = search admitting
