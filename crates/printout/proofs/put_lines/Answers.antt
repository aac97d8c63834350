use Rattle.printout.proofs.Lines.{lining}
use Rattle.printout.proofs.put_lines.Goals as goal

pub put_slot-o-requires : goal.put_slot-o-requires
put_slot-o-requires c = search lining

pub loop-i-preserved : goal.loop-i-preserved
loop-i-preserved c = search lining

pub returns : goal.returns
returns c = search lining
