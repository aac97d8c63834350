-- SCOPE, W8 and W9: the columns of a line of the listing.
--     decimal                     a number in base ten
--     time_text, preference_text  a time, a preference
--     ended                       a column and the octet behind it
use Rattle.std.specs.Prelude.{ℕ, zero, suc, ◌+◌, ◌/◌, ◌%◌, Bool, true, false, List, [], ◌∷◌, ◌++◌, ltb}
use Rattle.std.specs.Prelude.{Option, Some, None}
use Rattle.octets.specs.Octets.{ascii, octet}

-- the digit of a number below ten
abbrev pub digit : ℕ → ℕ
digit d = octet "0" + d

-- the last k digits of n, the most significant first, and no zero in front of them
unfoldable pub last_digits : ℕ → ℕ → List ℕ
last_digits zero n = []
last_digits (suc k) n = elim (ltb n 10) [ true ↦ digit n ∷ [] | false ↦ last_digits k (n / 10) ++ (digit (n % 10) ∷ []) ]

-- W9: a number in base ten, without zeros in front; n has at most n digits, and 0 has one
unfoldable pub decimal : ℕ → List ℕ
decimal n = last_digits (suc n) n

-- W9: an absent time is a hyphen, so that it differs from the time 0
unfoldable pub time_text : Option ℕ → List ℕ
time_text None = ascii "-"
time_text (Some t) = decimal t

-- W8: `mutual` or `none`
unfoldable pub preference_text : Bool → List ℕ
preference_text true = ascii "mutual"
preference_text false = ascii "none"

-- W8: a column with the octet behind it, a space or LF
unfoldable pub ended : List ℕ → ℕ → List ℕ
ended f x = f ++ (x ∷ [])
