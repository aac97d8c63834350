-- The effective date, and what callers ask of it.
--     effective-..        a branch of the code, and what the definition says
--     effective_upto      it is not above the receipt time (D2)
-- Assumes nothing.
use Prim.Native.Nat.{ℕ, ◌≤◌, min}
use mathlib.Core.Path.{◌≡◌, refl}
use Rattle.std.specs.Prelude.{Option, Some, None}
use native.Mathlib.Omega.{arith}
use borrow.Author.Rules.{rules}
use Rattle.date.specs.Date.{effective_date}

module _ (date : Option ℕ) (receipt : ℕ) where
  pub effective_none : date ≡ None → receipt ≡ effective_date date receipt
  unfolding effective_date
  effective_none q = rw q

  pub effective_some : (n : ℕ) → date ≡ Some n → min n receipt ≡ effective_date date receipt
  unfolding effective_date
  effective_some n q = rw q

pub ruleset effects = (effective_none, effective_some, rules)

pub effective_upto : (o : Option ℕ) (receipt : ℕ) → effective_date o receipt ≤ receipt
unfolding effective_date
effective_upto None receipt = omega arith
effective_upto (Some date) receipt = omega arith
