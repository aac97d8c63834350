-- What the private functions write: one line of those that `lines` has (SCOPE, W4).
--     line_of    a space, the characters of the octets, CR and LF
use Rattle.std.specs.Prelude.{ℕ, List, [], ◌∷◌, ◌++◌}
use Rattle.octets.specs.Octets.{cr, lf, space}
use Rattle.letters.specs.Base64.{encode}

-- W4: one line
abbrev pub line_of : List ℕ → List ℕ
line_of s = space ∷ (encode s ++ (cr ∷ lf ∷ []))
