use Rattle.showing.proofs.Laying.{showing_address}
use Rattle.showing.proofs.show.Goals as goal

pub slice_bounds-form-end : goal.slice_bounds-form-end
slice_bounds-form-end c = search (c.in_ok-n.was, showing_address)

pub slice_bounds-show_form-end : goal.slice_bounds-show_form-end
slice_bounds-show_form-end c = search (c.in_ok-n.was, showing_address)

pub show_form-requires-clause-s_in_bounds : goal.show_form-requires-clause-s_in_bounds
show_form-requires-clause-s_in_bounds c = search (c.in_ok-n.was, showing_address)

pub show_form-requires-clause-s_len_bound : goal.show_form-requires-clause-s_len_bound
show_form-requires-clause-s_len_bound c = search (c.in_ok-n.was, showing_address)

pub returns-clause-value : goal.returns-clause-value
returns-clause-value c = search (c.in_ok-n.was, showing_address)

pub returns-clause-out_after : goal.returns-clause-out_after
returns-clause-out_after c = search (c.in_ok-n.was, showing_address)
