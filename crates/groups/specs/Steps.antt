-- From the rule on key data, F9 of SCOPE, to the code's places: what the functions answer.
--     NextLetter       what `next_letter` answers
--     step_of          what a text goes on with whose next four characters are a group
--     NextGroup        what `next_group` answers
--     WholeGroup       what `whole_group` answers
use Rattle.std.specs.Prelude.{ℕ, ◌+◌, ◌<◌, ◌≤◌, ◌≡◌, List, [], ◌∷◌, length, get_or, drop}
use Rattle.std.specs.Prelude.{Option, Some, None}
use Rattle.octets.specs.Octets.{without_blanks}
use Rattle.letters.specs.Base64.{before, decode}
use Rattle.letters.specs.declared.Group.{Group}
use Rattle.letters.specs.declared.Group.TheVariants.{Three as GThree, Two as GTwo, One as GOne, Broken as GBroken}
use Rattle.groups.specs.declared.Next.{Next}
use Rattle.groups.specs.declared.Next.TheVariants.{Three, Two, One, End, Broken}

-- F9: the next character of s from the place `at` on that is no blank, and the place behind it; or there are only blanks
unfoldable pub NextLetter : List ℕ → ℕ → Option (ℕ × ℕ) → Type 0
NextLetter s at None = without_blanks (drop at s) ≡ []
NextLetter s at (Some r) = (without_blanks (drop at s) ≡ r.0 ∷ without_blanks (drop r.1 s)) × (at < r.1) × (r.1 ≤ length s)

-- F9: a group, the place behind it and the characters that follow: with pads it is the last
unfoldable pub step_of : Group → ℕ → List ℕ → Next
step_of (GThree x y z) n rest = Three x y z n
step_of (GTwo x y) n [] = Two x y
step_of (GTwo x y) n (c ∷ rest) = Broken
step_of (GOne x) n [] = One x
step_of (GOne x) n (c ∷ rest) = Broken
step_of GBroken n rest = Broken

-- F9: what s stands for from the place `at` on: three octets and what it stands for from the place n on, or its last octets, or
-- nothing
unfoldable pub NextGroup : List ℕ → ℕ → Next → Type 0
NextGroup s at (Three x y z n) =
    (decode (without_blanks (drop at s)) ≡ before (x ∷ y ∷ z ∷ []) (decode (without_blanks (drop n s)))) × (at + 4 ≤ n) × (n ≤ length s)
NextGroup s at (Two x y) = decode (without_blanks (drop at s)) ≡ Some (x ∷ y ∷ [])
NextGroup s at (One x) = decode (without_blanks (drop at s)) ≡ Some (x ∷ [])
NextGroup s at End = decode (without_blanks (drop at s)) ≡ Some []
NextGroup s at Broken = decode (without_blanks (drop at s)) ≡ None

-- the next group where it is known to be whole, four letters from the place `at` on; else nothing is said
unfoldable pub WholeGroup : List ℕ → ℕ → Option (List ℕ) → Type 0
WholeGroup s at (Some w) = NextGroup s at (Three (get_or w 0 0) (get_or w 1 0) (get_or w 2 0) (at + 4))
WholeGroup s at None = Unit
