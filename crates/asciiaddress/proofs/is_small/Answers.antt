use Rattle.std.proofs.Common.{◌∙◌, eqb}
use Rattle.octets.specs.Octets.{lower}
use Rattle.asciiaddress.proofs.Forms.{small_every}
use Rattle.asciiaddress.proofs.is_small.Goals as goal

pub returns : goal.returns
returns c = c.all.ensures (λ x. eqb (lower x) x) (λ x b fits posts. posts) ∙ small_every c.args.s.now
