use Rattle.address.proofs.Making.{having_wide_form}
use Rattle.address.proofs.has_wide_form.Goals as goal

pub returns-in-Some : goal.returns-in-Some
returns-in-Some c = search having_wide_form

pub returns-in-None : goal.returns-in-None
returns-in-None c = search having_wide_form
