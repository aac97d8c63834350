-- SCOPE, R33, R34, G1, A1, A6, A12 and O1: answers in numbers, as C has them.
--     in_numbers                          the number of a refusal, and the index that comes with 2; 0 and 0 where there is none
--     written_in_numbers                  the length of the field; a refusal has none, and 0 stands for that
--     setting_of                          the gossip setting
--     advice_number, advice_in_numbers    the advice, 0 where the call refuses
--     quick_in_numbers                    the advice and how many recipients were looked up
--     part_in_numbers                     a part of the table
--     linted_in_numbers                   how many faults there are, 0 where the call refuses
use Rattle.std.specs.Prelude.{ℕ, true, false, eqb, Result, Ok, Err}
use Rattle.refusals.specs.declared.Refusal.{Refusal}
use Rattle.refusals.specs.Refusals.{number_of, index_of}
use Rattle.advice.specs.declared.Advice.{Advice as Kind}
use Rattle.advice.specs.declared.Advice.TheVariants.{Disable, Discourage, Available, Encrypt}
use Rattle.advice.specs.declared.Part.{Part as Place}
use Rattle.settings.specs.declared.Gossip.{Gossip}
use Rattle.settings.specs.declared.Gossip.TheVariants.{Take, Skip, Unset}
use Rattle.recommend.specs.declared.Quick.{Quick as Quickly}
use Rattle.cabi.specs.declared.numbers.Answer.{Answer}
use Rattle.cabi.specs.declared.numbers.Advice.{Advice}
use Rattle.cabi.specs.declared.numbers.Linted.{Linted}
use Rattle.cabi.specs.declared.numbers.Part.{Part}
use Rattle.cabi.specs.declared.numbers.Quick.{Quick}
use Rattle.cabi.specs.declared.numbers.Written.{Written}

-- R33: 0, or the number of the refusal; the index is 0 with all answers but 2
unfoldable pub in_numbers : Result (Unit {0}) Refusal → Answer
in_numbers (Ok tt) = record { number = 0; index = 0 }
in_numbers (Err r) = record { number = number_of r; index = index_of r }

-- R34: 0 and the length of the field, or the number of the refusal and the length 0
unfoldable pub written_in_numbers : Result ℕ Refusal → Written
written_in_numbers (Ok n) = record { number = 0; length = n }
written_in_numbers (Err r) = record { number = number_of r; length = 0 }

-- G1: 1 stands for take and 2 for skip, and every other number is unset
unfoldable pub setting_of : ℕ → Gossip
setting_of n = elim (eqb n 1) [ true ↦ Take | false ↦ elim (eqb n 2) [ true ↦ Skip | false ↦ Unset ] ]

-- A1: the advices are 1 to 4, from low to high
abbrev pub advice_number : Kind → ℕ
advice_number Disable = 1
advice_number Discourage = 2
advice_number Available = 3
advice_number Encrypt = 4

-- A1: 0 and the advice, or the number of the refusal, its index, and 0 for the advice
unfoldable pub advice_in_numbers : Result Kind Refusal → Advice
advice_in_numbers (Ok a) = record { number = 0; index = 0; advice = advice_number a }
advice_in_numbers (Err r) = record { number = number_of r; index = index_of r; advice = 0 }

-- A12, A13: the numbers of the advice, and how many recipients were looked up
unfoldable pub quick_in_numbers : Quickly → Quick
quick_in_numbers q =
    let same = advice_in_numbers q.answer in
    record { number = same.number; index = same.index; advice = same.advice; looked_up = q.looked_up }

-- A6: start and length of a part, counted from the table's first octet
unfoldable pub part_in_numbers : Place → Part
part_in_numbers p = record { start = p.start; length = p.length }

-- O1: 0 and how many faults there are, or the number of the refusal and the count 0
unfoldable pub linted_in_numbers : Result ℕ Refusal → Linted
linted_in_numbers (Ok n) = record { number = 0; count = n }
linted_in_numbers (Err r) = record { number = number_of r; count = 0 }
