use Rattle.tokens.proofs.Commenting.{commenting, inside_on, inside_ends}
use Rattle.std.proofs.Common.{rules}
use Rattle.tokens.proofs.+comment_content.Goals as goal

pub comment-returns-then-room-eq0 : goal.comment-returns-then-room-eq0
comment-returns-then-room-eq0 t c = search commenting

pub comment-content-requires : goal.comment-content-requires
comment-content-requires t c = search commenting

pub comment-returns : goal.comment-returns
comment-returns t c = search commenting

pub content-loop-i-init : goal.content-loop-i-init
content-loop-i-init t c = search commenting

pub content-comment-requires : goal.content-comment-requires
content-comment-requires t c = search commenting

pub content-loop-i-preserved-in-Some : goal.content-loop-i-preserved-in-Some
content-loop-i-preserved-in-Some t c = search commenting

pub content-returns-in-None : goal.content-returns-in-None
content-returns-in-None t c = search commenting

pub content-loop-i-smaller : goal.content-loop-i-smaller
content-loop-i-smaller t c = search commenting

pub content-loop-i-preserved : goal.content-loop-i-preserved
content-loop-i-preserved t c = search (inside_on, rules)

pub content-returns-in-Ends : goal.content-returns-in-Ends
content-returns-in-Ends t c = inside_ends _ _ _ _ c.loop-i.invariant c.loop-i-test.true c.if-s-i-eq40.false _ c.step_in.ensures _ c.in-Ends.is

pub content-returns-in-Stops : goal.content-returns-in-Stops
content-returns-in-Stops t c = search commenting

pub content-returns : goal.content-returns
content-returns t c = search commenting
