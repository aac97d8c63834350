use Rattle.std.proofs.Common.{rules, tests}
use Rattle.std.proofs.lemmas.Iterator.{YieldsList-from_slice}
use Rattle.std.proofs.lemmas.Iterator.Search.{position_from_yields_List}
use Rattle.octets.specs.Octets.{same_name}
use Rattle.datewords.proofs.Naming.{cut, which_is, which_none}
use Rattle.datewords.proofs.meaning.which.Goals as goal

pub returns : goal.returns
returns c =
    let run = c.args.run.now in
    let e =
    position_from_yields_List (same_name run) _ _ c.position.result c.position.ensures.ran
    (YieldsList-from_slice (cut c.args.names.now) cc) (λ x b q k. search (rules, tests)) in
    which_is run c.args.names.now c.position.result e c.in_ok-k.k c.in_ok-k.was

pub returns-in_err-k : goal.returns-in_err-k
returns-in_err-k c =
    let run = c.args.run.now in
    let e =
    position_from_yields_List (same_name run) _ _ c.position.result c.position.ensures.ran
    (YieldsList-from_slice (cut c.args.names.now) cc) (λ x b q k. search (rules, tests)) in
    rw c.from_residual.ensures (which_none run c.args.names.now c.position.result e c.in_err-k.was)
