use Rattle.roll.proofs.Adding.{adding}
use Rattle.roll.proofs.add_readable.Goals as goal

pub loop-from-init : goal.loop-from-init
loop-from-init c = search adding

pub add-so_far-requires : goal.add-so_far-requires
add-so_far-requires c = search adding

pub loop-from-preserved : goal.loop-from-preserved
loop-from-preserved c = search adding

pub returns-clause-grew : goal.returns-clause-grew
returns-clause-grew c = search (c.in_default.not-Address, adding)
