use Rattle.std.proofs.Common.{◌≡◌, rules}
use Rattle.lookover.specs.Looking.{is_outer}
use Rattle.lookover.proofs.Judging.{judging_gossip}
use Rattle.lookover.proofs.judge_gossip.Goals as goal

pub returns : goal.returns
returns c =
    let e : c.eq.result ≡ is_outer c.args.side = search rules in
    search judging_gossip
