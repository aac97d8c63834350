use Rattle.inspect.specs.Inspecting.{refused_showing, showing_rows, left_by_showing}
use Rattle.inspect.proofs.Showing.{showing}
use Rattle.inspect.proofs.entry.Goals as goal

pub returns-in-Err-clause-value : goal.returns-in-Err-clause-value
unfolding refused_showing showing_rows
returns-in-Err-clause-value c = search showing

pub returns-in-Err-clause-numbers_after : goal.returns-in-Err-clause-numbers_after
unfolding refused_showing showing_rows left_by_showing
returns-in-Err-clause-numbers_after c = search showing
