use Rattle.attributes.proofs.Stepping.{preferring}
use Rattle.attributes.proofs.with_preference.Goals as goal

pub returns-in-None : goal.returns-in-None
returns-in-None c = search preferring

pub returns-in-Some : goal.returns-in-Some
returns-in-Some c = search preferring
