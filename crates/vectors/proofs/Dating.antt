-- The years that the program prints: those that can be written (D9).
--     year_first, year_last     both ends of them
-- Assumes nothing.
use Rattle.std.specs.Prelude.{Option, Some}
use Prim.Native.Nat.{ℕ, ◌≤◌}
use mathlib.Core.Path.{◌≡◌}
use mathlib.Core.List.{List}
use borrow.Author.Rules.{rules}
use Rattle.datewords.specs.Words.{meant}
use Rattle.datewords.specs.declared.meaning.Place.TheVariants.{Year}
use Rattle.datewords.proofs.Digits.{value_is}
use Rattle.datewords.proofs.Large.{year_some}

module _ (t : List ℕ) (r : Option ℕ) (n : ℕ) (a : r ≡ Some n) (e : r ≡ meant Year t) where
  written : (1900 ≤ n) × (n ≤ 9999)
  unfolding meant
  written = year_some t n (value_is (meant Year t) r n e a)

  pub year_first : 1900 ≤ n
  year_first = written.0

  pub year_last : n ≤ 9999
  year_last = written.1

pub ruleset dating = (year_first, year_last, rules)
