use Rattle.coder.proofs.Rounds.{rounds}
use Rattle.coder.proofs.passes.Goals as goal

pub round-requires : goal.round-requires
round-requires c = search rounds

pub returns-in_err-s : goal.returns-in_err-s
returns-in_err-s c = rw c.from_residual.ensures (search (c.in_err-s.was, rounds))

pub overflow_add-n : goal.overflow_add-n
overflow_add-n c = search (c.in_ok-s.was, rounds)

pub loop-m-smaller : goal.loop-m-smaller
loop-m-smaller c = search (c.in_ok-s.was, rounds)

pub loop-m-preserved : goal.loop-m-preserved
loop-m-preserved c = search (c.in_ok-s.was, rounds)
