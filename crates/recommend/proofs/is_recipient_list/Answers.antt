use Rattle.recommend.proofs.Recommending.{counting}
use Rattle.recommend.proofs.is_recipient_list.Goals as goal

pub returns-then-n-ge1 : goal.returns-then-n-ge1
returns-then-n-ge1 c = search counting

pub returns-else-n-ge1 : goal.returns-else-n-ge1
returns-else-n-ge1 c = search counting
