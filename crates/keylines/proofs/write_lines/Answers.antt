use Rattle.std.proofs.Common.{rules, ◌∙◌}
use Rattle.keylines.proofs.Laying.{going_begin, going_place, going_whole, line_room, line_put, lines_end}
use Rattle.keylines.proofs.write_lines.Goals as goal

pub loop-octets-init : goal.loop-octets-init
loop-octets-init c =
    (search rules, tt, search rules, rw (c.into_iter-octets-iterator.ensures.into_iter_gives, c.chunks-octets-items.ensures.rest) (going_begin _ _ _ c.requires))

pub write_line-o-requires : goal.write_line-o-requires
write_line-o-requires c =
    let steps = c.in-Some.ensures.steps in
    let size = c.loop-octets.invariant.2 in
    (c.letters-letters.ensures, line_room _ _ _ _ _ _ _ _ steps.1.0 (rw size at steps.1.1) steps.1.2 c.loop-octets.invariant.3)

pub loop-octets-preserved : goal.loop-octets-preserved
loop-octets-preserved c =
    let steps = c.in-Some.ensures.steps in
    let size = c.loop-octets.invariant.2 in (
      search rules,
      tt,
      steps.0 ∙ size,
      line_put _ _ _ _ _ _ _ _ steps.1.0 (rw size at steps.1.1) steps.1.2 c.loop-octets.invariant.3 _ c.write_line-o.ensures.out_after _ c.write_line-o.ensures.value,
    )

pub returns-clause-value : goal.returns-clause-value
returns-clause-value c = going_place _ _ _ _ _ (lines_end _ _ _ _ _ _ c.in-None.ensures.steps.1.0 c.loop-octets.invariant.3)

pub returns-clause-out_after : goal.returns-clause-out_after
returns-clause-out_after c = going_whole _ _ _ _ _ (lines_end _ _ _ _ _ _ c.in-None.ensures.steps.1.0 c.loop-octets.invariant.3)
