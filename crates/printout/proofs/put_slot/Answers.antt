use Rattle.printout.proofs.Lines.{slotting}
use Rattle.printout.proofs.put_slot.Goals as goal

pub returns-then-not-is_used : goal.returns-then-not-is_used
returns-then-not-is_used c = search slotting

pub put_text-addressed-requires : goal.put_text-addressed-requires
put_text-addressed-requires c = search slotting

pub put_numbers-requires : goal.put_numbers-requires
put_numbers-requires c = search slotting

pub returns : goal.returns
returns c = search slotting
