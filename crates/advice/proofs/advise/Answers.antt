use Rattle.advice.proofs.Advising.{advising}
use Rattle.advice.proofs.advise.Goals as goal

pub returns-in-Some : goal.returns-in-Some
returns-in-Some c = search advising
