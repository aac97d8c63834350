-- From the definitions of Asked.antt to what the code answers (SCOPE, O6 to O9). An answer gives places of the value.
--     ValueAs                 where the value of a piece stands
--     saying_from, rest_from  the values of the pieces of a name from a place on, and behind the piece that ends at a place
--     last_from, last_behind  whether the last piece has the name, from a place on and behind the piece that ends at a place
--     FoundAt, FoundAs        the first of these pieces
--     NamedAt, NamedAs        where the one address stands
use Rattle.std.specs.Prelude.{ℕ, ◌+◌, ◌≤◌, ◌≡◌, Bool, true, cond, List, [], ◌∷◌, ltb, length}
use Rattle.std.specs.Prelude.{Option, Some, None}
use Rattle.octets.specs.Octets.{octet}
use Rattle.pieces.specs.Pieces.{pieces}
use Rattle.address.specs.Address.{canonical}
use Rattle.attributes.specs.Answers.{part, Within}
use Rattle.attributes.specs.Steps.{PlainAt}
use Rattle.attributes.specs.declared.Bounds.{Bounds}
use Rattle.asked.specs.Asked.{is_called, value_of, values_called, last_of, named}
use Rattle.asked.specs.declared.Called.{Called}
use Rattle.asked.specs.declared.Found.{Found}

-- F2: between the places stands the value of the piece that stands between the others
pub record ValueAs (s : List ℕ) (from to : ℕ) (r : Bounds) : Type 0 where
  pub is : part s r.from r.to ≡ value_of (part s from to)
  pub within : Within s r.from r.to

-- the values of the pieces of a name from the place `at` on, where a piece begins
unfoldable pub saying_from : Called → List ℕ → ℕ → List (List ℕ)
saying_from what s at = values_called what (pieces (octet ";") (part s at (length s)))

-- those behind the piece that ends at the place `end`: a `;` stands there, or it is the end of the value
unfoldable pub rest_from : Called → List ℕ → ℕ → List (List ℕ)
rest_from what s end = cond (ltb end (length s)) (saying_from what s (end + 1)) []

-- O8: is the last piece called so, of those from the place `at` on?
unfoldable pub last_from : Called → List ℕ → ℕ → Bool
last_from what s at = is_called what (last_of (pieces (octet ";") (part s at (length s))))

-- the same where one that ends at the place `end` is called so: if none is behind it, it is the last
unfoldable pub last_behind : Called → List ℕ → ℕ → Bool
last_behind what s end = cond (ltb end (length s)) (last_from what s (end + 1)) true

-- The first piece of the name has its value between two places, and ends at the place `end`.
pub record FoundAt (what : Called) (s : List ℕ) (at from to end : ℕ) : Type 0 where
  pub first : saying_from what s at ≡ part s from to ∷ rest_from what s end
  pub last : last_from what s at ≡ last_behind what s end
  pub within : Within s from to
  pub upto : end ≤ length s

unfoldable pub FoundAs : Called → List ℕ → ℕ → Option Found → Type 0
FoundAs what s at (Some f) = FoundAt what s at f.value.from f.value.to f.end
FoundAs what s at None = saying_from what s at ≡ []

-- O6: the address that the value names stands between two places, as it was given.
pub record NamedAt (s : List ℕ) (from to : ℕ) : Type 0 where
  pub is : named s ≡ Some (canonical (part s from to))
  pub stands : PlainAt s from to

unfoldable pub NamedAs : List ℕ → Option Bounds → Type 0
NamedAs s (Some at) = NamedAt s at.from at.to
NamedAs s None = named s ≡ None
