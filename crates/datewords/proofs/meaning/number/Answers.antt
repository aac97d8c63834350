use Rattle.datewords.proofs.Digits.{valuing}
use Rattle.datewords.proofs.meaning.number.Goals as goal

pub loop-x-preserved : goal.loop-x-preserved
loop-x-preserved c = search (c.in_ok-d.was, valuing)
