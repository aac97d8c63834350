-- SCOPE, G1 and G2: what a payload comes to where gossip is not taken. These are claims about the outcomes of `process` and of the function of
-- the header, which proofs/Skipping shows.
--     SkippedPayload    the outcome is that of the same call without a payload
--     NeverSeven        it is not refusal 7
--     SkippedInC        as SkippedPayload, in C and for every number but 1
use Rattle.std.specs.Prelude.{ℕ, ◌≡◌, ◌↔◌, false, List, [], Result, Err}
use Rattle.refusals.specs.declared.Refusal.{Refusal}
use borrow.Fn.Claims.{AllOf}
use Rattle.refusals.specs.declared.Refusal.TheVariants.{PayloadBlock}
use Rattle.settings.specs.Settings.{taken}
use Rattle.settings.specs.declared.Gossip.{Gossip}
use Rattle.cabi.specs.declared.numbers.Answer.{Answer as AnswerInC}
use Rattle.outcomes.specs.Outcomes.{Process}
use Rattle.outcomes.specs.OutcomesInC.{VienghulacProcess}

-- G2: whatever the payload is, the same answer and table meet the contract as for the call without one
abbrev pub SkippedPayload : Type 0
SkippedPayload =
    (table : List ℕ) (receipt : ℕ) (outer payload : List ℕ) (gossip : Gossip) (r : Result (Unit {0}) Refusal) (left : List ℕ) → taken gossip ≡ false
    → (AllOf (Process table receipt outer payload gossip r left) ↔ AllOf (Process table receipt outer [] gossip r left))

-- G2, R7: 7 is given only where gossip is taken
abbrev pub NeverSeven : Type 0
NeverSeven =
    (table : List ℕ) (receipt : ℕ) (outer payload : List ℕ) (gossip : Gossip) (left : List ℕ)
    → taken gossip ≡ false → AllOf (Process table receipt outer payload gossip (Err PayloadBlock) left) → ⊥

-- G1, G2: in C the payload counts with the number 1 alone
abbrev pub SkippedInC : Type 0
SkippedInC =
    (table : List ℕ) (receipt : ℕ) (outer payload : List ℕ) (gossip : ℕ) (r : AnswerInC) (left : List ℕ) → (gossip ≡ 1 → ⊥)
    → (AllOf (VienghulacProcess table receipt outer payload gossip r left) ↔ AllOf (VienghulacProcess table receipt outer [] gossip r left))
