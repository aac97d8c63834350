use Rattle.std.proofs.Common.{◌≡◌}
use Rattle.std.specs.Slice.Iter.{chunks_rest, chunks_size}
use Rattle.letters.specs.Base64.{encode}
use Rattle.keylines.specs.Lines.{lines}
use Rattle.keylines.proofs.Laying.{Going}
use Rattle.keylines.proofs.write_lines.Given as goal

abbrev pub invariant-loop-octets : goal.invariant-loop-octets
invariant-loop-octets l =
    (goal.iterator-loop-octets).can_next l.octets-iterator
    × (goal.iterator-loop-octets).is_finite l.octets-iterator
    × (chunks_size l.octets-iterator ≡ 57)
    × Going (lines (encode l.key)) l.fn.out l.at l.out l.o (lines (encode (chunks_rest l.octets-iterator)))
