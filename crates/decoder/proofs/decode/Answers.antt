use Rattle.std.proofs.lemmas.List.{take_rest}
use Rattle.decoder.proofs.Resting.{decode_end}
use Rattle.decoder.proofs.decode.Goals as goal

pub returns : goal.returns
returns c =
    let rest = rw take_rest at c.read_rest.ensures in
    decode_end _ _ c.requires _ c.front-b.ensures _ c.copy.ensures _ c.behind.ensures c.if-not-is_ascii.ensures.cases _ _ rest
