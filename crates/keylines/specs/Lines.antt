-- SCOPE, W4: a text as the lines of a field, and what becomes of them where the field is unfolded (B9).
--     lines             lines of 76 characters, the last one of the rest, each with a space in front and CRLF behind
--     ending, joined    the octets without CR and LF
--     spread            a text with one space before each 76 characters
use Rattle.std.specs.Prelude.{ℕ, zero, suc, Bool, ◌||◌, List, [], ◌∷◌, eqb}
use Rattle.octets.specs.Octets.{space, cr, lf}
use Rattle.octets.specs.Tests.{without}

-- W4: the rest of a text whose line still takes so many characters; no empty line follows a full one
unfoldable pub laid : ℕ → List ℕ → List ℕ
laid k [] = cr ∷ lf ∷ []
laid zero (x ∷ t) = cr ∷ lf ∷ space ∷ x ∷ laid 75 t
laid (suc k) (x ∷ t) = x ∷ laid k t

-- W4: each line has up to 76 characters, a space in front and CRLF behind; an empty text has no line
unfoldable pub lines : List ℕ → List ℕ
lines [] = []
lines (x ∷ t) = space ∷ x ∷ laid 75 t

-- an octet of the line endings that are written
unfoldable pub ending : ℕ → Bool
ending x = eqb x cr || eqb x lf

-- B9: written lines, unfolded: each of their CRs and LFs is of a line ending
abbrev pub joined : List ℕ → List ℕ
joined s = without ending s

-- the rest of a text, so many characters before its next space
unfoldable pub spaced : ℕ → List ℕ → List ℕ
spaced k [] = []
spaced zero (x ∷ t) = space ∷ x ∷ spaced 75 t
spaced (suc k) (x ∷ t) = x ∷ spaced k t

-- what unfolding leaves of the lines of a text: a space before each 76 characters
unfoldable pub spread : List ℕ → List ℕ
spread [] = []
spread (x ∷ t) = space ∷ x ∷ spaced 75 t
