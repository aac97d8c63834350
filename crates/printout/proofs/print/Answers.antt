use Rattle.printout.proofs.Printing.{printing}
use Rattle.printout.proofs.print.Goals as goal

pub returns-then-input-gt-LONGEST-clause-out_after : goal.returns-then-input-gt-LONGEST-clause-out_after
returns-then-input-gt-LONGEST-clause-out_after c = search printing

pub returns-in-Sound-clause-out_after : goal.returns-in-Sound-clause-out_after
returns-in-Sound-clause-out_after c = search printing

pub returns-in-Length-clause-out_after : goal.returns-in-Length-clause-out_after
returns-in-Length-clause-out_after c = search printing

pub returns-in-Slot-clause-out_after : goal.returns-in-Slot-clause-out_after
returns-in-Slot-clause-out_after c = search printing
