-- answered here, and not left to the check, so that the edit `absent_time_as_zero` is refused by "no proof" and not by a limit
use Rattle.columns.proofs.Placing.{choosing}
use Rattle.columns.proofs.put_time.Goals as goal

pub put_number-requires : goal.put_number-requires
put_number-requires c = search choosing

pub put_text-requires : goal.put_text-requires
put_text-requires c = search choosing

pub returns-in-Some : goal.returns-in-Some
returns-in-Some c = search choosing

pub returns-in-None : goal.returns-in-None
returns-in-None c = search choosing
