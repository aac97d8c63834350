use Rattle.codepoints.proofs.Reading.{resting}
use Rattle.codepoints.proofs.rest_of.Goals.{then-x-low-via-then-x-low, then-x-low-via-else-x-low+then-high-x}
use Rattle.codepoints.proofs.rest_of.Goals as goal

pub returns-then-x-low : goal.returns-then-x-low
returns-then-x-low c = elim c.then-x-low.branch [ then-x-low-via-then-x-low w ↦ search resting | then-x-low-via-else-x-low+then-high-x w ↦ search resting ]

pub overflow_mul-number : goal.overflow_mul-number
overflow_mul-number c = search resting

pub overflow_add-number : goal.overflow_add-number
overflow_add-number c = search resting

pub loop-i-preserved : goal.loop-i-preserved
loop-i-preserved c = search resting

pub returns : goal.returns
returns c = search resting
