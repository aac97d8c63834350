use Rattle.std.proofs.Common.{rules}
use Rattle.address.proofs.Joining.{bounds_begin, bounds_next, part_within, part_from, join_begin, join_none, join_last, join_full, join_next}
use Rattle.address.proofs.put_labels.Goals as goal

pub loop-put-init : goal.loop-put-init
loop-put-init g c = record { bounded = search (bounds_begin, rules); joins = λ text w. join_begin text _ _ _ _ }

pub slice_bounds-put-end : goal.slice_bounds-put-end
slice_bounds-put-end g c = search (part_within, part_from, rules)

pub returns-then-s-end : goal.returns-then-s-end
returns-then-s-end g c = λ text w.
    join_last text _ _ _ _ _ _ _ c.loop-put.invariant.bounded (c.loop-put.invariant.joins text w) _ c.find-end.ensures _ _ (w _ _ _ _ _ c.put.ensures) _ c.in_ok-e.was c.if-s-end.true

pub returns-then-out-e : goal.returns-then-out-e
returns-then-out-e g c = λ text w.
    join_full text _ _ _ _ _ _ _ c.loop-put.invariant.bounded (c.loop-put.invariant.joins text w) _ c.find-end.ensures _ _ (w _ _ _ _ _ c.put.ensures) _ c.in_ok-e.was c.if-s-end.false c.if-out-e.true

pub loop-put-preserved : goal.loop-put-preserved
loop-put-preserved g c =
    record {
      bounded = bounds_next _ _ _ _ _ c.loop-put.invariant.bounded _ _ _ (search rules) c.if-s-end.false c.if-out-e.false;
      joins = λ text w.
          join_next text _ _ _ _ _ _ _ c.loop-put.invariant.bounded (c.loop-put.invariant.joins text w) _ c.find-end.ensures _ _ (w _ _ _ _ _ c.put.ensures) _ c.in_ok-e.was c.if-s-end.false c.if-out-e.false;
    }

pub returns-in_err-e : goal.returns-in_err-e
returns-in_err-e g c = λ text w.
    rw c.from_residual.ensures (join_none text _ _ _ _ _ _ _ c.loop-put.invariant.bounded (c.loop-put.invariant.joins text w) _ c.find-end.ensures _ _ (w _ _ _ _ _ c.put.ensures) c.in_err-e.was)
