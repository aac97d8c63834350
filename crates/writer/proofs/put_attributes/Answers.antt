use Rattle.writer.proofs.Placing.{attributing}
use Rattle.writer.proofs.put_attributes.Goals as goal

pub append_preference-preferred-requires : goal.append_preference-preferred-requires
append_preference-preferred-requires c = search attributing

pub write_lines-requires : goal.write_lines-requires
write_lines-requires c = search attributing

pub returns : goal.returns
returns c = search attributing
