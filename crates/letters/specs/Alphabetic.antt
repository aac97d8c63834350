-- Texts by the characters that they have.
--     Free          a text in which no character passes a test
--     Alphabetic    a text of letters, digits, `+`, `/` and `=` alone
use Rattle.std.specs.Prelude.{ℕ, ◌≡◌, Bool, false, List, [], ◌∷◌}
use Rattle.letters.specs.Base64.{sign_of}
use Rattle.letters.specs.declared.Sign.TheVariants.{Other}

unfoldable pub Free : (ℕ → Bool) → List ℕ → Type 0
Free test [] = Unit
Free test (x ∷ t) = (test x ≡ false) × Free test t

-- F9: the characters that stand for something are the alphabet and the pad
unfoldable pub Alphabetic : List ℕ → Type 0
Alphabetic [] = Unit
Alphabetic (x ∷ t) = (sign_of x ≡ Other → ⊥) × Alphabetic t
