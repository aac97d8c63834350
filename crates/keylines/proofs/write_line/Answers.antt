use Rattle.std.proofs.Common.{rules, ◌∙◌}
use Rattle.keylines.proofs.Laying.{line_begin, going_place, going_whole, group_room, group_put, ending_room, ending_put}
use Rattle.keylines.proofs.write_line.Goals as goal

pub loop-group-init : goal.loop-group-init
loop-group-init c =
    (search rules, tt, search rules, rw (c.into_iter-group-iterator.ensures.into_iter_gives, c.chunks-group-items.ensures.rest) (line_begin _ _ _ c.requires.1))

pub put-requires : goal.put-requires
put-requires c =
    let steps = c.in-Some.ensures.steps in
    let size = c.loop-group.invariant.2 in
    group_room _ _ _ _ _ _ _ _ _ steps.1.0 (rw size at steps.1.1) c.loop-group.invariant.3 _ c.four_of.ensures

pub loop-group-preserved : goal.loop-group-preserved
loop-group-preserved c =
    let steps = c.in-Some.ensures.steps in
    let size = c.loop-group.invariant.2 in (
      search rules,
      tt,
      steps.0 ∙ size,
      group_put _ _ _ _ _ _ _ _ _ steps.1.0 (rw size at steps.1.1) c.loop-group.invariant.3 _ c.four_of.ensures steps.1.2 _ c.put.ensures,
    )

pub put-requires-2 : goal.put-requires-2
put-requires-2 c = ending_room _ _ _ _ _ _ c.in-None.ensures.steps.1.0 c.loop-group.invariant.3

pub returns-clause-value : goal.returns-clause-value
returns-clause-value c = going_place _ _ _ _ _ (ending_put _ _ _ _ _ _ c.in-None.ensures.steps.1.0 c.loop-group.invariant.3 _ c.put-2.ensures)

pub returns-clause-out_after : goal.returns-clause-out_after
returns-clause-out_after c = going_whole _ _ _ _ _ (ending_put _ _ _ _ _ _ c.in-None.ensures.steps.1.0 c.loop-group.invariant.3 _ c.put-2.ensures)
