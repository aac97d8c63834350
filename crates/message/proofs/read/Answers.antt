use Rattle.message.proofs.WholeReading.{opening}
use Rattle.message.proofs.read.Goals as goal

pub returns-then-receipt-gt-TIME_LIMIT : goal.returns-then-receipt-gt-TIME_LIMIT
returns-then-receipt-gt-TIME_LIMIT c = search opening

pub read_on-requires : goal.read_on-requires
read_on-requires c = search opening

pub returns-in-None : goal.returns-in-None
returns-in-None c = search opening
