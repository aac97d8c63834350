use Rattle.keys.proofs.Counting.{counting}
use Rattle.keys.proofs.counted_field.Goals as goal

pub next_valid-requires-2 : goal.next_valid-requires-2
next_valid-requires-2 c = search (counting, c.in_ok-first.was)

pub returns-in-Some : goal.returns-in-Some
returns-in-Some c = search (counting, c.in_ok-first.was)
