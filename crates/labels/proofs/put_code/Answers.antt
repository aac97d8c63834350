use Rattle.labels.proofs.Writing.{putting_code}
use Rattle.labels.proofs.put_code.Goals as goal

pub encode-requires : goal.encode-requires
encode-requires c = search putting_code

pub returns-in-Bad : goal.returns-in-Bad
returns-in-Bad c = search putting_code

pub returns-in-Full : goal.returns-in-Full
returns-in-Full c = search putting_code
