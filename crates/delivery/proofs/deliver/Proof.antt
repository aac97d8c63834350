-- `delivery::deliver` meets its contract: the laws of `Delivering` answer every need. Assumes nothing.
use Rattle.delivery.proofs.Delivering.{carrying, delivering}
use Rattle.delivery.proofs.deliver as fn

pub deliver_spec : {M : Type 1} → fn.Statement.statement M
deliver_spec =
    fn.Tie.close (fn.Tie.spec (λ c κs. search carrying) (λ c. search carrying) (λ c. search carrying)
    (λ c. (search delivering, search delivering)) (λ c κs. search carrying) (λ c. search carrying)
    (λ c. search carrying) (λ c. (search delivering, search delivering)))
