-- What lent memory holds after a write.
--     put_at   the list d with w written over it from the place `at` on
--     onto     d with w written over its beginning
use Rattle.std.specs.Prelude.{ℕ, ◌+◌, List, ◌++◌, length, take, drop}

unfoldable pub put_at : List ℕ → ℕ → List ℕ → List ℕ
put_at d at w = take at d ++ (w ++ drop (at + length w) d)

unfoldable pub onto : List ℕ → List ℕ → List ℕ
onto w d = w ++ drop (length w) d
