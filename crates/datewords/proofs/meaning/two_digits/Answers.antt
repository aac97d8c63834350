use Rattle.datewords.proofs.Meant.{twos}
use Rattle.datewords.proofs.meaning.two_digits.Goals as goal

pub returns-then-most-n : goal.returns-then-most-n
returns-then-most-n c = search (c.in_ok-n.was, twos)

pub returns : goal.returns
returns c = search (c.in_ok-n.was, twos)
