-- `delivery::deliver_alone` meets its contract: the laws of `Delivering` answer every need. Assumes nothing.
use borrow.Author.Rules.{rules}
use Rattle.delivery.proofs.Delivering.{alone}
use Rattle.delivery.proofs.deliver_alone as fn

pub deliver_alone_spec : {M : Type 1} → fn.Statement.statement M
deliver_alone_spec =
    fn.Tie.close (fn.Tie.spec (λ c κs. search alone) (λ c. search alone) (λ c. (search alone, search alone))
    (λ c κs. search rules) (λ c. search alone) (λ c. (search alone, search alone)))
