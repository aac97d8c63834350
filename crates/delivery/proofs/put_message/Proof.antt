-- `delivery::put_message` meets its contract: the laws of `Delivering` answer every need. Assumes nothing.
use borrow.Author.Rules.{rules}
use Rattle.delivery.proofs.Delivering.{putting}
use Rattle.delivery.proofs.put_message as fn

pub put_message_spec : {M : Type 1} → fn.Statement.statement M
put_message_spec =
    fn.Tie.close (fn.Tie.spec (λ c κs. search rules) (λ c κs. search putting) (λ c. search rules) (λ c. search rules)
    (λ c. search putting))
