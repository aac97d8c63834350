use Rattle.octets.proofs.Comparing.{name_is}
use Rattle.octets.proofs.same_name.Goals as goal

pub returns : goal.returns
returns c = name_is c.args.a.now c.args.b.now c.eq_ignore_ascii_case.result c.eq_ignore_ascii_case.ensures.test
