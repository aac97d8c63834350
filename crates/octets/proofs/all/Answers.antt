use Rattle.std.proofs.Common.{get_or}
use Rattle.octets.proofs.Every.{passed_next, passed_end}
use Rattle.octets.proofs.all.Goals as goal

pub loop-x-preserved : goal.loop-x-preserved
loop-x-preserved g c =
    λ p computes.
    let s = c.args.s.now in
    let i = c.loop-x.x-index in
    let b = c.test-passed.result in
    passed_next p s c.loop-x.passed i (c.loop-x.invariant p computes) b c.loop-x-test.true
    (computes (get_or s i 0) b (c.type_inv.s i).fits c.test-passed.ensures)

pub returns : goal.returns
returns g c =
    λ p computes. passed_end p c.args.s.now c.loop-x.passed c.loop-x.x-index (c.loop-x.invariant p computes) c.loop-x-test.false
