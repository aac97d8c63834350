use Rattle.showing.proofs.Making.{putting_opened}
use Rattle.showing.proofs.put_opened.Goals as goal

pub returns-in-Some : goal.returns-in-Some
returns-in-Some c = search putting_opened

pub returns-in-None : goal.returns-in-None
returns-in-None c = search putting_opened
