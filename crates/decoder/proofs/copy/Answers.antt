use Rattle.std.proofs.Common.{◌≡◌, length, arith, zero-add, ◌∙◌}
use lib.Seq.{take-length}
use Rattle.octets.specs.Written.{put_at}
use Rattle.decoder.proofs.copy.Goals as goal

pub returns : goal.returns
unfolding put_at
returns c =
    let e : c.loop-i.i ≡ length c.args.text.now = omega arith in
    c.loop-i.invariant ∙ rw (e, take-length, zero-add)
