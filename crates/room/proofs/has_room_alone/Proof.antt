-- `room::has_room_alone` meets its contract: the laws of `Newcomers` answer every need. Assumes nothing.
use Rattle.room.proofs.Newcomers.{alone}
use Rattle.room.proofs.has_room_alone as fn

pub has_room_alone_spec : {M : Type 1} → fn.Statement.statement M
has_room_alone_spec =
    fn.Tie.close (fn.Tie.spec (λ c. search alone) (λ c. search alone) (λ c. search alone) (λ c. search alone)
    (λ c. search alone) (λ c. search alone))
