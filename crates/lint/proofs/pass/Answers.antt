use Rattle.lint.proofs.Passing.{passing}
use Rattle.lint.proofs.pass.Goals as goal

pub look_over-first-requires : goal.look_over-first-requires
look_over-first-requires c = search passing

pub look_over-second-requires : goal.look_over-second-requires
look_over-second-requires c = search passing

pub returns : goal.returns
returns c = search passing
