use Rattle.std.proofs.lemmas.List.{take_rest}
use Rattle.groups.proofs.Nexts.{whole_three}
use Rattle.groups.proofs.whole_group.Goals as goal

pub returns : goal.returns
returns c =
    rw c.to_be_bytes.ensures
    (whole_three c.args.src.now c.args.at c.requires.1 _ (take_rest c.args.src.now c.args.at) c.in-len4-up.len_at_least
    _ _ _ _ c.code_of-p.ensures c.code_of-q.ensures c.code_of-r.ensures c.code_of-s.ensures
    c.if-p-ge64.false c.if-q-ge64.false c.if-r-ge64.false c.if-s-ge64.false _ c.bits.ensures)
