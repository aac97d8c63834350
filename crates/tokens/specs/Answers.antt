-- From the lists that the definitions leave behind to the places that the code answers.
--     reached                    where in s what is left begins
--     takes, step_in             what the readers of a single octet inside a comment or a quoted string say
--     opened, Opening, Passed    what the readers of comments ask and say
use Rattle.std.specs.Prelude.{ℕ, ◌+◌, ◌-◌, ◌<◌, ◌≤◌, ◌≡◌, List, [], ◌∷◌, Bool, true, false, not, length, get_or, drop}
use Rattle.std.specs.Prelude.{Option, Some, None}
use Rattle.octets.specs.Octets.{octet}
use Rattle.tokens.specs.Tokens.{control, kind_of, depth, past}
use Rattle.tokens.specs.declared.OctetKind.TheVariants.{Closes, Escapes, Control, Plain}
use Rattle.tokens.specs.declared.StepIn.{StepIn}
use Rattle.tokens.specs.declared.StepIn.TheVariants.{On, Ends, Stops}

-- the place of what is left; unreadable where there is none
unfoldable pub reached : List ℕ → Option (List ℕ) → Option ℕ
reached s None = None
reached s (Some rest) = Some (length s - length rest)

-- L4, L5: is there an octet that a backslash may take? A control octet is none.
unfoldable pub takes : List ℕ → Bool
takes [] = false
takes (x ∷ s) = not (control x)

-- L4, L5: what stands next inside a comment or a quoted string, at the place `at` of a text
unfoldable pub step_in : ℕ → ℕ → List ℕ → StepIn
step_in closing at [] = Stops
step_in closing at (x ∷ s) =
    elim (kind_of closing x) [
      | Closes ↦ Ends (at + 1)
      | Escapes ↦ elim (takes s) [ true ↦ On (at + 2) | false ↦ Stops ]
      | Control ↦ Stops
      | Plain ↦ On (at + 1)
    ]

-- L2: how many comments are open where `room` more may be
abbrev pub opened : ℕ → ℕ
opened room = depth - room

-- a comment opens at the place `at` of s, where `room` more may be open
abbrev pub Opening : List ℕ → ℕ → ℕ → Type 0
Opening s at room = (at < length s) × (get_or s at 0 ≡ octet "(") × (room ≤ depth)

-- With `before` comments open at the place `at` of s, reading has come to a place n behind it with `after` open, and what is left behind
-- all comments is the same from either place.
pub record Passing (s : List ℕ) (at before after n : ℕ) : Type 0 where
  pub beyond : at < n
  pub upto : n ≤ length s
  pub same : past before false (drop at s) ≡ past after false (drop n s)

-- it has come to such a place, or the text is unreadable
abbrev pub Passed : List ℕ → ℕ → ℕ → ℕ → Option ℕ → Type 0
Passed s at before after (Some n) = Passing s at before after n
Passed s at before after None = past before false (drop at s) ≡ None
