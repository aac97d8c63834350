-- `room::is_new` meets its contract: the laws of `Meeting` answer every need. Assumes nothing.
use borrow.Author.Rules.{rules}
use Rattle.roll.proofs.Growing.{kept_within, kept_tags, kept_places, kept_index}
use Rattle.room.proofs.Meeting.{told_found, told_rolled}
use Rattle.room.proofs.is_new as fn

pub is_new_spec : {M : Type 1} → fn.Statement.statement M
is_new_spec =
    fn.Tie.close (fn.Tie.spec (λ c. search rules) (λ c. search rules) (λ c. search rules) (λ c. search rules)
    (λ c. search rules) (λ c. search kept_within) (λ c. search rules) (λ c. search rules) (λ c. search kept_tags)
    (λ c. search rules) (λ c. search rules) (λ c. search kept_places) (λ c. search kept_index) (λ c. search told_found)
    (λ c. search told_rolled))
