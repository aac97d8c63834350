use Rattle.std.proofs.Common.{arith, drop}
use Rattle.octets.proofs.Finding.{length_before_is}
use Rattle.roll.proofs.next_tag.Goals as goal

pub returns : goal.returns
returns c = omega (arith, c.first_from.ensures, length_before_is c.args.tag (drop c.args.from c.args.tags.now))
