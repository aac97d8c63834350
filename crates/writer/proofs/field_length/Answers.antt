use native.Mathlib.Omega.{arith}
use Rattle.keylines.proofs.Lengths.{lines_counted}
use Rattle.writer.proofs.field_length.Goals as goal

pub overflow_add-result-5 : goal.overflow_add-result-5
overflow_add-result-5 c = omega (arith, lines_counted c.args.key.now)
