-- SCOPE, R31: a call's refusals are a list of rows in the order of testing, each a refusal and its test; the first row that holds
-- decides.
--     Row, ◌when◌, ◌unless◌      a refusal that is given where a test holds, or where it does not
--     first_of                   the refusal of the first row that holds; none where no row does
--     answered_by                what comes of a call: one thing if it is refused, another if it is not
--     answer_of, unless_refused  the answer of a call with nothing else to say; what a call leaves that writes nothing where it is refused
--     number_in                  the number of a refusal, or 0 where there is none
--     Gives                      the row of a number holds and none before it; for 0, no row holds
--     some_holds                 is there a row with this number that holds?
use Rattle.std.specs.Prelude.{ℕ, ◌≡◌, Bool, true, false, not, ◌&&◌, ◌||◌, List, [], ◌∷◌, eqb, Result, Ok, Err}
use Rattle.std.specs.Prelude.{Option, Some, None}
use Rattle.refusals.specs.Refusals.{number_of}
use Rattle.refusals.specs.declared.Refusal.{Refusal}

-- R31: a row of a call's order of testing
pub data Row : Type 0 where
  ◌when◌ : Refusal → Bool → Row

infix 30 ◌when◌
abbrev pub ◌unless◌ : Refusal → Bool → Row
r unless b = r when (not b)

infix 30 ◌unless◌
-- R31: the first row that holds; those behind it are not asked
unfoldable pub first_of : List Row → Option Refusal
first_of [] = None
first_of ((r when b) ∷ rest) = elim b [ true ↦ Some r | false ↦ first_of rest ]

unfoldable pub answered_by : {A : Type 0} → Option Refusal → (Refusal → A) → A → A
answered_by (Some r) refused done = refused r
answered_by None refused done = done

abbrev pub answer_of : Option Refusal → Result (Unit {0}) Refusal
answer_of o = answered_by o Err (Ok tt)

-- R32: a refused call leaves all as it was before
abbrev pub unless_refused : {A : Type 0} → Option Refusal → A → A → A
unless_refused o before after = answered_by o (λ (r : Refusal). before) after

-- R31: 0 where no row holds
abbrev pub number_in : Option Refusal → ℕ
number_in o = answered_by o number_of 0

-- C3, R31: when a number is given, and when 0 is
pub data Gives : List Row → ℕ → Type 0 where
  nothing : {n : ℕ} → 0 ≡ n → Gives [] n
  here : {r : Refusal} {b : Bool} {rest : List Row} {n : ℕ} → b ≡ true → number_of r ≡ n → Gives ((r when b) ∷ rest) n
  behind : {r : Refusal} {b : Bool} {rest : List Row} {n : ℕ} → b ≡ false → Gives rest n → Gives ((r when b) ∷ rest) n

-- R31: is there a row with this number that holds?
unfoldable pub some_holds : ℕ → List Row → Bool
some_holds n [] = false
some_holds n ((r when b) ∷ rest) = (eqb (number_of r) n && b) || some_holds n rest
