use Rattle.octets.proofs.Finding.{skipping}
use Rattle.octets.proofs.skip.Goals as goal

pub returns-then-has : goal.returns-then-has
returns-then-has g c = search skipping

pub returns : goal.returns
returns g c = search skipping
