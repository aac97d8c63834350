use Rattle.datewords.proofs.Meant.{years}
use Rattle.datewords.proofs.meaning.year.Goals as goal

pub returns : goal.returns
returns c = search (c.in_ok-n.was, years)
