use Rattle.columns.proofs.Placing.{counting}
use Rattle.columns.proofs.+put_decimal.Goals as goal

pub bounds-out-at : goal.bounds-out-at
bounds-out-at t c = search counting

pub returns-then-n-lt10 : goal.returns-then-n-lt10
returns-then-n-lt10 t c = search counting

pub put_decimal-o-requires : goal.put_decimal-o-requires
put_decimal-o-requires t c = search counting

pub returns : goal.returns
returns t c = search counting

pub bounds-out-o : goal.bounds-out-o
bounds-out-o t c = search counting

pub overflow_add-result-2 : goal.overflow_add-result-2
overflow_add-result-2 t c = search counting
