use Rattle.decoder.proofs.Resting.{Rest}
use Rattle.decoder.proofs.read_rest.Given as goal

abbrev pub invariant-loop-c : goal.invariant-loop-c
invariant-loop-c l = Rest l.text l.b l.fn.out l.out l.s l.c-index
