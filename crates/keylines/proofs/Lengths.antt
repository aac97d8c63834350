-- How long the lines of a text are.
--     length_laid      the rest of a text, with the line breaks in it
--     length_lines     three characters more for every line begun
--     lines_counted    how long the lines of octets are, as code counts them
-- Assumes nothing.
use Prim.Native.Nat.{ℕ, zero, suc, ◌+◌, ◌-◌, ◌*◌, ◌/◌}
use mathlib.Core.Path.{◌≡◌, refl, sym}
use mathlib.Core.List.{List, [], ◌∷◌}
use native.Mathlib.Omega.{arith}
use Rattle.std.specs.Int.{div_ceil}
use lib.ListN.{length}
use Rattle.letters.specs.Base64.{encode}
use Rattle.letters.proofs.Lengths.{length_encode}
use Rattle.keylines.specs.Lines.{laid, lines}

pub length_laid : (k : ℕ) (t : List ℕ) → length (laid k t) ≡ length t + 2 + (length t - k + 75) / 76 * 3
unfolding laid
length_laid zero [] = refl
length_laid (suc k) [] = omega arith
length_laid zero (x ∷ t) = omega (arith, length_laid 75 t)
length_laid (suc k) (x ∷ t) = omega (arith, length_laid k t)

pub length_lines : (t : List ℕ) → length (lines t) ≡ length t + (length t + 75) / 76 * 3
unfolding lines
length_lines [] = refl
length_lines (x ∷ t) = omega (arith, length_laid 75 t)

pub lines_counted : (s : List ℕ) → (length s + 2) / 3 * 4 + ((length s + 2) / 3 * 4 + 75) / 76 * 3 ≡ length (lines (encode s))
lines_counted s = sym (rw (length_lines, length_encode))

-- as `div_ceil` counts them
pub lines_ceiled : (s : List ℕ) (n m : ℕ) → n ≡ div_ceil (length s) 3 → m ≡ div_ceil (n * 4) 76 → n * 4 + m * 3 ≡ length (lines (encode s))
lines_ceiled s n m e f = omega (arith, lines_counted s)
