use Rattle.utf8.proofs.Walking.{ascii_is}
use Rattle.utf8.proofs.is_ascii.Goals as goal

pub returns : goal.returns
returns c = ascii_is c.args.s.now c.is_ascii.result c.is_ascii.ensures.cases
