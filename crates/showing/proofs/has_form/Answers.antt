use Rattle.showing.proofs.Making.{having_form}
use Rattle.showing.proofs.has_form.Goals as goal

pub returns-in-Some : goal.returns-in-Some
returns-in-Some c = search having_form

pub returns-in-None : goal.returns-in-None
returns-in-None c = search having_form
