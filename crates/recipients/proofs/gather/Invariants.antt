use Rattle.std.proofs.Common.{length, ◌-◌}
use Rattle.recipients.proofs.RecipientRoll.{Gathering}
use Rattle.recipients.proofs.gather.Given as goal

abbrev pub invariant-loop-field : goal.invariant-loop-field
invariant-loop-field l = Gathering l.block l.initial.roll l.initial.tags l.initial.places l.roll l.tags l.places l.so_far l.at

abbrev pub decreases-loop-field : goal.decreases-loop-field
decreases-loop-field l = length l.block - l.at
