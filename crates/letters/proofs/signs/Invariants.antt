use Rattle.std.proofs.Common.{◌≡◌}
use Rattle.letters.proofs.Alphabet.{tabled}
use Rattle.letters.proofs.signs.Given as goal

abbrev pub invariant-loop-value : goal.invariant-loop-value
invariant-loop-value l = l.table ≡ tabled l.value
