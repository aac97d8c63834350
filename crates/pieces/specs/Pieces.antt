-- A text parted at an octet: addresses at `.` and `@` (SCOPE, L6 and L7), fields at `;` and `=` (F1 and F2).
--     pieces    the text split at each such octet; without one it is a single piece
--     before    what stands before the first such octet; the whole text where there is none
--     behind    what stands behind the first such octet; nothing where there is none
--     from      what stands from the first such octet on; nothing where there is none
--     joined    pieces put together again, with such an octet between two of them
use Rattle.std.specs.Prelude.{ℕ, true, false, List, [], ◌∷◌, ◌++◌, eqb}

-- an octet put in front of the first piece
unfoldable pub on_first : ℕ → List (List ℕ) → List (List ℕ)
on_first x [] = (x ∷ []) ∷ []
on_first x (p ∷ ps) = (x ∷ p) ∷ ps

-- L6, L7: both sides of an address, at each dot. F1: the value of a field, at each `;`.
unfoldable pub pieces : ℕ → List ℕ → List (List ℕ)
pieces d [] = [] ∷ []
pieces d (x ∷ s) = elim (eqb x d) [ true ↦ [] ∷ pieces d s | false ↦ on_first x (pieces d s) ]

-- L6: a local part, before the first `@`. F2: the name in a piece, before its first `=`.
unfoldable pub before : ℕ → List ℕ → List ℕ
before d [] = []
before d (x ∷ s) = elim (eqb x d) [ true ↦ [] | false ↦ x ∷ before d s ]

-- L6: a domain, behind the first `@`. F2: the value in a piece, behind its first `=`.
unfoldable pub behind : ℕ → List ℕ → List ℕ
behind d [] = []
behind d (x ∷ s) = elim (eqb x d) [ true ↦ s | false ↦ behind d s ]

-- L8: a domain with the `@` before it
unfoldable pub from : ℕ → List ℕ → List ℕ
from d [] = []
from d (x ∷ s) = elim (eqb x d) [ true ↦ x ∷ s | false ↦ from d s ]

-- each piece behind such an octet
unfoldable pub following : ℕ → List (List ℕ) → List ℕ
following d [] = []
following d (p ∷ ps) = d ∷ (p ++ following d ps)

-- L8: labels, with the dots between them
unfoldable pub joined : ℕ → List (List ℕ) → List ℕ
joined d [] = []
joined d (p ∷ ps) = p ++ following d ps
