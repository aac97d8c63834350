use Rattle.lint.proofs.Calling.{walking}
use Rattle.lint.proofs.lint_walked.Goals as goal

pub returns-then-not-readable-clause-value : goal.returns-then-not-readable-clause-value
returns-then-not-readable-clause-value c = search walking

pub returns-then-not-readable-clause-list_after : goal.returns-then-not-readable-clause-list_after
returns-then-not-readable-clause-list_after c = search walking

pub slice_bounds-lint_sent-end : goal.slice_bounds-lint_sent-end
slice_bounds-lint_sent-end c = search walking

pub lint_sent-requires : goal.lint_sent-requires
lint_sent-requires c = search walking
