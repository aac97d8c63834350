use Rattle.datewords.proofs.Meant.{offsets}
use Rattle.datewords.proofs.meaning.offset.Goals as goal

pub returns : goal.returns
returns c = search (c.in_ok-n.was, offsets)
