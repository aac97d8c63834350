use Rattle.std.proofs.Common.{arith}
use Rattle.keydata.proofs.Answering.{some_told}
use Rattle.keydata.proofs.is_base64.Goals as goal

pub returns : goal.returns
returns c = some_told _ _ _ (c.write.ensures.all (omega arith)) c.is_some.ensures
