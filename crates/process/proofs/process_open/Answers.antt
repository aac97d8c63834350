use Rattle.process.proofs.Processing.{roomy_short}
use Rattle.process.proofs.process_open.Goals as goal

pub process_with-requires : goal.process_with-requires
process_with-requires c = search roomy_short
