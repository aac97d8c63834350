-- How long encoded texts are.
--     length_encode    four characters for every three octets begun
-- Assumes nothing.
use Prim.Native.Nat.{ℕ, ◌+◌, ◌*◌, ◌/◌}
use mathlib.Core.Path.{◌≡◌, refl}
use mathlib.Core.List.{List, [], ◌∷◌}
use native.Mathlib.Omega.{arith}
use lib.ListN.{length}
use Rattle.letters.specs.Base64.{encode}

pub length_encode : (s : List ℕ) → length (encode s) ≡ (length s + 2) / 3 * 4
unfolding encode
length_encode [] = refl
length_encode (a ∷ []) = refl
length_encode (a ∷ b ∷ []) = refl
length_encode (a ∷ b ∷ c ∷ rest) = omega (arith, length_encode rest)
