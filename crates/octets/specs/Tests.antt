-- Tests of lists and of numbers.
--     every      each element passes the test
--     Computes   a function answers a test of octets
--     without    a list without what passes a test
--     one_to     the number is one from 1 to a limit
use Rattle.std.specs.Prelude.{ℕ, ◌<◌, ◌≡◌, Bool, true, false, ◌&&◌, List, [], ◌∷◌, leb}

unfoldable pub every : {A : Type 0} → (A → Bool) → List A → Bool
every test [] = true
every test (x ∷ s) = test x && every test s

-- by what is known of its calls, a function answers the test
abbrev pub Computes : (ℕ → Bool → Type 0) → (ℕ → Bool) → Type 0
Computes post test = (x : ℕ) (b : Bool) → x < 256 → post x b → b ≡ test x

unfoldable pub without : (ℕ → Bool) → List ℕ → List ℕ
without test [] = []
without test (x ∷ s) = elim (test x) [ true ↦ without test s | false ↦ x ∷ without test s ]

-- at least 1 and at most so much
abbrev pub one_to : ℕ → ℕ → Bool
one_to most n = leb 1 n && leb n most
