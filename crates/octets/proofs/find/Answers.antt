use Rattle.std.proofs.Common.{arith, drop}
use Rattle.octets.proofs.Finding.{before_past, length_before_is}
use Rattle.octets.proofs.find.Goals as goal

pub returns-then-s-from : goal.returns-then-s-from
returns-then-s-from c = before_past c.args.x c.args.s.now c.args.from c.if-s-from.true

pub returns : goal.returns
returns c = omega (arith, c.first_from.ensures, length_before_is c.args.x (drop c.args.from c.args.s.now))
