use Rattle.std.proofs.Common.{◌∙◌}
use Rattle.tags.proofs.Among.{first_is}
use Rattle.tags.proofs.is_among.Goals as goal

pub returns : goal.returns
returns c = c.has.ensures ∙ first_is c.args.tag c.args.tags.now c.args.n c.requires
