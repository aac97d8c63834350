-- From what a piece comes to, to what the code answers.
--     address_at           the address seen so far
--     PlainAt, Stands      a plain address stands between two places; so does the address seen so far
--     step_at, Steps       the step that an answer shows; an answer shows this step
use Rattle.std.specs.Prelude.{ℕ, ◌≤◌, ◌≡◌, Bool, true, List, length}
use Rattle.std.specs.Prelude.{Option, Some, None}
use Rattle.address.specs.Address.{plain}
use Rattle.attributes.specs.Step.{Step, on, last, spoils}
use Rattle.attributes.specs.Answers.{part, Within}
use Rattle.attributes.specs.declared.Bounds.{Bounds}
use Rattle.attributes.specs.declared.NextPiece.{NextPiece}
use Rattle.attributes.specs.declared.NextPiece.TheVariants.{On, Last, Spoils}

unfoldable pub address_at : List ℕ → Option Bounds → Option (List ℕ)
address_at s None = None
address_at s (Some at) = Some (part s at.from at.to)

-- F6: a plain address stands there
pub record PlainAt (s : List ℕ) (from to : ℕ) : Type 0 where
  pub order : from ≤ to
  pub upto : to ≤ length s
  pub plainly : plain (part s from to) ≡ true

unfoldable pub Stands : List ℕ → Option Bounds → Type 0
Stands s None = Unit
Stands s (Some at) = PlainAt s at.from at.to

unfoldable pub step_at : List ℕ → NextPiece → Step
step_at s (On place preference) = on (address_at s place) preference
step_at s (Last v) = last (part s v.from v.to)
step_at s Spoils = spoils

unfoldable pub NextWithin : List ℕ → NextPiece → Type 0
NextWithin s (On place preference) = Stands s place
NextWithin s (Last v) = Within s v.from v.to
NextWithin s Spoils = Unit

-- an answer shows this step
pub record Steps (s : List ℕ) (r : NextPiece) (x : Step) : Type 0 where
  pub is : step_at s r ≡ x
  pub within : NextWithin s r
