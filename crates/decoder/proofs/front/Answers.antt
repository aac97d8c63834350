use Rattle.std.proofs.Common.{rules}
use Rattle.std.proofs.iter.runs.Made.{chains}
use Rattle.decoder.proofs.Fronting.{front_is}
use Rattle.decoder.proofs.front.Goals as goal

pub returns : goal.returns
returns c = rw c.unwrap_or.ensures (front_is c.args.text.now c.rposition.result (search (rules, chains)))
