use Rattle.message.proofs.Bringing.{bringing}
use Rattle.message.proofs.bring.Goals as goal

pub counted_field-own-requires : goal.counted_field-own-requires
counted_field-own-requires c = search bringing

pub returns : goal.returns
returns c = search bringing
