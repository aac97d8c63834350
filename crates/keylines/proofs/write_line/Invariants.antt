use Rattle.std.proofs.Common.{◌≡◌, [], ◌∷◌, ◌++◌}
use Rattle.std.specs.Slice.Iter.{chunks_rest, chunks_size}
use Rattle.octets.specs.Octets.{cr, lf}
use Rattle.letters.specs.Base64.{encode}
use Rattle.keylines.specs.Steps.{line_of}
use Rattle.keylines.proofs.Laying.{Going}
use Rattle.keylines.proofs.write_line.Given as goal

abbrev pub invariant-loop-group : goal.invariant-loop-group
invariant-loop-group l =
    (goal.iterator-loop-group).can_next l.group-iterator
    × (goal.iterator-loop-group).is_finite l.group-iterator
    × (chunks_size l.group-iterator ≡ 3)
    × Going (line_of l.octets) l.fn.out l.at l.out l.o (encode (chunks_rest l.group-iterator) ++ (cr ∷ lf ∷ []))
