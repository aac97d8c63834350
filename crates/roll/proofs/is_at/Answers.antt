use Rattle.roll.proofs.Looking.{standing}
use Rattle.roll.proofs.is_at.Goals as goal

pub slice_bounds-has_known_form-end : goal.slice_bounds-has_known_form-end
slice_bounds-has_known_form-end c = search standing
