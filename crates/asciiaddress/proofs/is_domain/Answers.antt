use Rattle.asciiaddress.proofs.Labels.{label_upto}
use Rattle.std.proofs.Common.{rules}
use Rattle.asciiaddress.proofs.is_domain.Goals as goal

pub slice_bounds-shaped-end : goal.slice_bounds-shaped-end
slice_bounds-shaped-end c = search (label_upto, rules)
