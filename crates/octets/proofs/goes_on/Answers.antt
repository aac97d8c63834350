use Rattle.std.proofs.Common.{◌∙◌}
use Rattle.octets.proofs.Comparing.{opens_from}
use Rattle.octets.proofs.goes_on.Goals as goal

pub returns : goal.returns
returns c = c.starts_with.ensures.value ∙ opens_from c.args.text.now c.args.s.now c.args.at c.min.result c.min.ensures
