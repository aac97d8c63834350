use Rattle.message.proofs.WholeReading.{sending, asking}
use Rattle.message.proofs.read_on.Goals as goal

pub slice_bounds-read_sent-end : goal.slice_bounds-read_sent-end
slice_bounds-read_sent-end c = search sending

pub slice_bounds-read_sent-end-in-Some : goal.slice_bounds-read_sent-end-in-Some
slice_bounds-read_sent-end-in-Some c = search sending

pub read_sent-requires : goal.read_sent-requires
read_sent-requires c = search sending

pub returns-in-Some : goal.returns-in-Some
returns-in-Some c = search asking

pub returns-in-None : goal.returns-in-None
returns-in-None c = search asking
