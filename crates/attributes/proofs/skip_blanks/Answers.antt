use Rattle.attributes.proofs.Trimming.{trimming_front}
use Rattle.attributes.proofs.skip_blanks.Goals as goal

pub returns : goal.returns
returns c = search trimming_front
