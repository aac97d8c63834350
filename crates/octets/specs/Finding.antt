-- The first place of an octet, and of any element.
--     holds           is there such an octet?
--     length_before   how many octets come before the first such octet, or before the end where there is none
--     Skipped         a place that is reached over elements that fail a test, with less than so many of them left
use Rattle.std.specs.Prelude.{ℕ, suc, ◌+◌, ◌<◌, ◌≤◌, ◌≡◌, Bool, true, false, ◌||◌, List, [], ◌∷◌, eqb, length, drop}
use Rattle.std.specs.List.{position_or_len}

unfoldable pub holds : ℕ → List ℕ → Bool
holds d [] = false
holds d (x ∷ s) = eqb x d || holds d s

unfoldable pub length_before : ℕ → List ℕ → ℕ
length_before d [] = 0
length_before d (x ∷ s) = elim (eqb x d) [ true ↦ 0 | false ↦ suc (length_before d s) ]

-- between the places `at` and r no element passes, and fewer than `width` elements follow up to the next that does
pub record Skipped {A : Type 0} (test : A → Bool) (s : List A) (at width r : ℕ) : Type 0 where
  pub same : at + position_or_len test (drop at s) ≡ r + position_or_len test (drop r s)
  pub upto : r ≤ length s
  pub near : position_or_len test (drop r s) < width
