use Rattle.std.proofs.Common.{rules}
use Rattle.addresslist.proofs.Moving.{near_gives, move_hand}
use Rattle.addresslist.proofs.next_address.Goals as goal

pub returns-in-Address : goal.returns-in-Address
returns-in-Address c = near_gives _ _ _ _ _ _ c.loop-from.invariant (search (move_hand, rules))
