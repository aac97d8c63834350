use Rattle.convert.proofs.Bringing.{absorbing}
use Rattle.convert.proofs.absorb.Goals as goal

pub merge-requires : goal.merge-requires
merge-requires c = search absorbing

pub returns : goal.returns
returns c = search absorbing
