use Rattle.roll.proofs.Adding.{adding_one}
use Rattle.roll.proofs.add.Goals as goal

pub bounds-roll-to : goal.bounds-roll-to
bounds-roll-to c = search adding_one

pub returns-clause-grew : goal.returns-clause-grew
returns-clause-grew c = search adding_one

pub returns-clause-kept : goal.returns-clause-kept
returns-clause-kept c = search adding_one
