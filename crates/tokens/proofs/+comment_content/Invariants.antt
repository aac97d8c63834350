use Rattle.std.proofs.Common.{length, ◌-◌, ◌+◌, ◌*◌}
use Rattle.tokens.proofs.Commenting.{Inside}
use Rattle.tokens.proofs.+comment_content.Given as goal

-- `room` falls from a comment to its content, and `comment` at a room comes before `content` at the same
abbrev pub decreases-comment : goal.decreases-comment
decreases-comment l = 2 * l.room

abbrev pub decreases-content : goal.decreases-content
decreases-content l = 2 * l.room + 1

abbrev pub invariant-content-loop-i : goal.invariant-content-loop-i
invariant-content-loop-i l = Inside l.s l.at l.room l.i

abbrev pub decreases-content-loop-i : goal.decreases-content-loop-i
decreases-content-loop-i l = length l.s - l.i
