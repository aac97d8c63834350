use Rattle.std.proofs.Common.{◌≡◌, rules, false}
use Rattle.header.specs.Header.{unfolded}
use Rattle.lookover.specs.Looking.{is_outer, is_own}
use Rattle.lookover.proofs.Judging.{own_elsewhere, own_other, judging}
use Rattle.lookover.proofs.judge.Goals as goal
use Rattle.lookover.proofs.judge.Goals.{else-eq-via-then-eq+else-is_kind, else-eq-via-else-eq}

pub returns-then-is_kind : goal.returns-then-is_kind
returns-then-is_kind c = let o : c.eq.result ≡ is_outer c.args.side = search rules in search judging

pub returns-then-is_kind-2 : goal.returns-then-is_kind-2
returns-then-is_kind-2 c =
    let o : c.eq.result ≡ is_outer c.args.side = search rules in
    let n : is_own c.args.side (record { name = c.args.name.now; value = unfolded c.args.raw.now }) ≡ false =
    elim c.else-eq.branch [
      | else-eq-via-then-eq+else-is_kind w ↦ own_other c.args.side _ _ w.is_kind.result w.is_kind.ensures w.if-is_kind.false
      | else-eq-via-else-eq w ↦ own_elsewhere c.args.side _ _ c.eq.result o w.if-eq.false
    ] in
    search judging

pub returns : goal.returns
returns c =
    let o : c.eq.result ≡ is_outer c.args.side = search rules in
    let n : is_own c.args.side (record { name = c.args.name.now; value = unfolded c.args.raw.now }) ≡ false =
    elim c.else-eq.branch [
      | else-eq-via-then-eq+else-is_kind w ↦ own_other c.args.side _ _ w.is_kind.result w.is_kind.ensures w.if-is_kind.false
      | else-eq-via-else-eq w ↦ own_elsewhere c.args.side _ _ c.eq.result o w.if-eq.false
    ] in
    search judging
