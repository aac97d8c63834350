use Rattle.decoder.proofs.Landing.{landing}
use Rattle.decoder.proofs.land.Goals as goal

pub returns : goal.returns
returns c = search landing
