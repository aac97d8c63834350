-- `roll::add_list` meets its contract: the laws of `Adding` answer every need. Assumes nothing.
use Rattle.roll.proofs.Adding.{adding_list}
use Rattle.roll.proofs.add_list as fn

pub add_list_spec : {M : Type 1} → fn.Statement.statement M
add_list_spec =
    fn.Tie.close (fn.Tie.spec (λ c. search adding_list) (λ c. search adding_list) (λ c. search adding_list)
    (λ c. search adding_list) (λ c. search adding_list) (λ c. search adding_list) (λ c. search adding_list)
    (λ c. search adding_list) (λ c. search adding_list))
