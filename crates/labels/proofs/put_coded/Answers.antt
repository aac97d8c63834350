use Rattle.labels.proofs.Writing.{putting_coded}
use Rattle.labels.proofs.put_coded.Goals as goal

pub returns-in-None : goal.returns-in-None
returns-in-None c = search putting_coded
