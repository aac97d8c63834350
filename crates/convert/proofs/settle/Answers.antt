use Rattle.convert.proofs.Bringing.{settling}
use Rattle.convert.proofs.settle.Goals as goal

pub absorb-requires : goal.absorb-requires
absorb-requires c = search settling
