use Rattle.std.proofs.Common.{sym, ◌∙◌, arith}
use lib.Seq.{length-take-le}
use Rattle.keydata.proofs.Answered.{octets_answered}
use Rattle.vectors.proofs.run_decode.Goals as goal

pub slice_bounds-out-end : goal.slice_bounds-out-end
slice_bounds-out-end g c =
    omega (arith, (octets_answered _ _ c.in-Some.n (sym c.in-Some.is ∙ c.decode.ensures.value)).2, c.decode.auto)

pub slice_bounds-print_octets-end : goal.slice_bounds-print_octets-end
slice_bounds-print_octets-end g c =
    sym (length-take-le _ _ (omega (arith, (octets_answered _ _ c.in-Some.n (sym c.in-Some.is ∙ c.decode.ensures.value)).2, c.decode.auto)))
