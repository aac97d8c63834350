use Rattle.groups.proofs.Nexts.{spacing}
use Rattle.groups.proofs.next_group.Goals as goal

pub returns-in_default-next_letter-3 : goal.returns-in_default-next_letter-3
returns-in_default-next_letter-3 c = search spacing
