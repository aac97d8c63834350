use Rattle.calendar.proofs.Closed.{counting}
use Rattle.calendar.proofs.day_count.Goals as goal

pub overflow_add-result : goal.overflow_add-result
overflow_add-result c = search counting

pub overflow_add-result-2 : goal.overflow_add-result-2
overflow_add-result-2 c = search counting

pub overflow_sub-result-2 : goal.overflow_sub-result-2
overflow_sub-result-2 c = search counting

pub returns : goal.returns
returns c = search counting
