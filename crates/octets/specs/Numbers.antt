-- SCOPE, T2: numbers of several octets, the least octet first.
--     number    the number that octets stand for
--     digits    the first so many octets of a number
use Rattle.std.specs.Prelude.{ℕ, zero, suc, ◌+◌, ◌*◌, ◌/◌, ◌%◌, List, [], ◌∷◌}

-- T2: the first octet is the least
unfoldable pub number : List ℕ → ℕ
number [] = 0
number (x ∷ s) = x + 256 * number s

-- T2: so many octets, the least first; a number that is too large for them loses its upper octets
unfoldable pub digits : ℕ → ℕ → List ℕ
digits zero n = []
digits (suc k) n = n % 256 ∷ digits k (n / 256)
