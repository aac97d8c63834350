use Rattle.std.proofs.Common.{rules}
use Rattle.tokens.proofs.Quoting.{quoting_ends}
use Rattle.tokens.proofs.quoted.Goals as goal

pub returns-in-Ends : goal.returns-in-Ends
returns-in-Ends c = search (quoting_ends, rules)
