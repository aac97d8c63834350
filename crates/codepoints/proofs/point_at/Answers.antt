use Rattle.codepoints.proofs.Reading.{lead_begun}
use Rattle.std.proofs.Common.{get_or}
use Rattle.codepoints.proofs.point_at.Goals as goal

pub rest_of-requires-clause-begun : goal.rest_of-requires-clause-begun
rest_of-requires-clause-begun c = lead_begun (get_or c.args.s.now c.args.i 0) c.lead_of.result c.in_ok-first.first c.in_ok-first.was c.lead_of.ensures
