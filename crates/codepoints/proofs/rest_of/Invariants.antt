use Rattle.std.proofs.Common.{drop}
use Rattle.utf8.specs.Utf8.{tails}
use Rattle.codepoints.proofs.Reading.{Rest}
use Rattle.codepoints.proofs.rest_of.Given as goal

abbrev pub invariant-loop-i : goal.invariant-loop-i
invariant-loop-i l =
    Rest l.s l.at (tails (drop l.at l.s) l.fn.first.following l.fn.first.low l.fn.first.high l.fn.first.bits) l.i l.end l.low l.high l.number
