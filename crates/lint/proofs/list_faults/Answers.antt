use Rattle.lint.proofs.Passing.{listing}
use Rattle.lint.proofs.list_faults.Goals as goal

pub with_missing-needed-requires : goal.with_missing-needed-requires
with_missing-needed-requires c = search listing

pub returns-then-list-needed-clause-value : goal.returns-then-list-needed-clause-value
returns-then-list-needed-clause-value c = search listing

pub returns-then-list-needed-clause-list_after : goal.returns-then-list-needed-clause-list_after
returns-then-list-needed-clause-list_after c = search listing

pub returns-then-needed-eq0-clause-value : goal.returns-then-needed-eq0-clause-value
returns-then-needed-eq0-clause-value c = search listing

pub returns-then-needed-eq0-clause-list_after : goal.returns-then-needed-eq0-clause-list_after
returns-then-needed-eq0-clause-list_after c = search listing

pub returns-clause-value : goal.returns-clause-value
returns-clause-value c = search listing

pub returns-clause-list_after : goal.returns-clause-list_after
returns-clause-list_after c = search listing
