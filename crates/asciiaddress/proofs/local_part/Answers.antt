use Rattle.asciiaddress.proofs.Atoms.{atom_empty, atom_endless, atom_whole, atom_long}
use Rattle.std.proofs.Common.{rules}
use Rattle.asciiaddress.proofs.local_part.Goals as goal

pub returns-then-s-end : goal.returns-then-s-end
returns-then-s-end c = search (atom_endless, rules)

pub returns-then-end-i : goal.returns-then-end-i
returns-then-end-i c = search (atom_empty, rules)

pub returns-then-end-le-LONGEST_LOCAL : goal.returns-then-end-le-LONGEST_LOCAL
returns-then-end-le-LONGEST_LOCAL c = search (atom_whole, rules)

pub returns-then-s-end-eq64 : goal.returns-then-s-end-eq64
returns-then-s-end-eq64 c = search (atom_long, rules)
