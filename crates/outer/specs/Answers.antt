-- From the rule on the sender (U3) to what the code answers and leaves in lent memory.
--     sender_of, left_by_sender  the sender's address
use Rattle.std.specs.Prelude.{ℕ, List, length}
use Rattle.std.specs.Prelude.{Option, Some, None}
use Rattle.octets.specs.Written.{onto}

-- the answer: how long the sender's address is, or that there is not exactly one sender
unfoldable pub sender_of : Option (List ℕ) → Option ℕ
sender_of None = None
sender_of (Some a) = Some (length a)

-- the address stands at the front of the lent memory; without a sender that stays as it was
unfoldable pub left_by_sender : Option (List ℕ) → List ℕ → List ℕ
left_by_sender None out = out
left_by_sender (Some a) out = onto a out
