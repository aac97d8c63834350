use Rattle.lint.proofs.Calling.{opening}
use Rattle.lint.proofs.lint_with.Goals as goal

pub lint_walked-requires : goal.lint_walked-requires
lint_walked-requires g c = search opening
