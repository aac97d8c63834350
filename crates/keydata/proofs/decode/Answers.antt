use Rattle.keydata.proofs.Answering.{held}
use Rattle.keydata.proofs.decode.Goals as goal

pub returns-clause-value : goal.returns-clause-value
returns-clause-value c = c.write.ensures.counts

pub returns-clause-decodes : goal.returns-clause-decodes
returns-clause-decodes c = held _ _ _ _ c.write.ensures
