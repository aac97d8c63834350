use Rattle.fields.proofs.Finding.{seeking}
use Rattle.fields.proofs.find.Goals as goal

pub slice_bounds-is_kind-start : goal.slice_bounds-is_kind-start
slice_bounds-is_kind-start c = search seeking

pub slice_bounds-is_kind-count : goal.slice_bounds-is_kind-count
slice_bounds-is_kind-count c = search seeking

pub slice_bounds-is_kind-end : goal.slice_bounds-is_kind-end
slice_bounds-is_kind-end c = search seeking

pub returns-then-is_kind : goal.returns-then-is_kind
returns-then-is_kind c = search (c.in-Field.ensures, seeking)

pub loop-place-smaller : goal.loop-place-smaller
loop-place-smaller c = search seeking
