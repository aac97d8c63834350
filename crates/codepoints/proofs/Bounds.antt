-- How many octets code points take, and how large they are (L20, L21).
--     encoded_most     at most four octets each
--     points_fewer     so a text has at least a fourth as many code points as octets
--     small_scalars    what is read in lower case are code points
--     scalars_below    none of them lies above U+10FFFF
-- Assumes nothing.
use Prim.Native.Nat.{ℕ, ◌*◌, ◌<◌, ◌≤◌}
use mathlib.Core.Path.{◌≡◌, refl, ap}
use mathlib.Core.Bool.{true}
use mathlib.Core.List.{List, [], ◌∷◌}
use Rattle.std.specs.Prelude.{Option, Some, None}
use mathlib.Core.Logic.{⊎_elim}
use native.Mathlib.Omega.{arith}
use lib.Dec.{ltb}
use lib.ListN.{length, get_or, length-append, get_or-eq_default}
use Rattle.octets.proofs.Lists.{lt_or_le}
use Rattle.octets.proofs.Tests.{by_test}
use Rattle.octets.proofs.Every.{every_at}
use Rattle.utf8.specs.Utf8.{points, encoded_one, encoded, scalar, scalars}
use Rattle.utf8.specs.Lowering.{lower_points}
use Rattle.utf8.proofs.RoundTrip.{scalar_most}
use Rattle.utf8.proofs.Scalars.{points_scalars}
use Rattle.utf8.proofs.Back.{encoded_points}
use Rattle.utf8.proofs.Mapping.{lower_points_scalar}
use Rattle.codepoints.specs.Reading.{small_of}

one_most : (p : ℕ) → length (encoded_one p) ≤ 4
unfolding encoded_one
one_most p =
    by_test (ltb p 0x80)
    (λ a. rw a (omega arith))
    (λ a.
    by_test (ltb p 0x800)
    (λ b. rw (a, b) (omega arith))
    (λ b. by_test (ltb p 0x10000) (λ c. rw (a, b, c) (omega arith)) (λ c. rw (a, b, c) (omega arith))))

pub encoded_most : (ps : List ℕ) → length (encoded ps) ≤ 4 * length ps
unfolding encoded
encoded_most [] = omega arith
encoded_most (p ∷ ps) = simp length-append (omega (arith, one_most p, encoded_most ps))

pub points_fewer : (s ps : List ℕ) → points s ≡ Some ps → length s ≤ 4 * length ps
points_fewer s ps e = omega (arith, encoded_most ps, ap length (encoded_points s ps e))

-- where there is something in lower case, it is the lower case of something
small_some : (o : Option (List ℕ)) (ps : List ℕ) → small_of o ≡ Some ps → (qs : List ℕ) × ((o ≡ Some qs) × (lower_points qs ≡ ps))
unfolding small_of
small_some None ps e = let z : ◌≡◌ {A = ℕ} 0 1 = cc in absurd (omega arith)
small_some (Some qs) ps e = (qs, (refl, cc))

pub small_scalars : (s ps : List ℕ) → small_of (points s) ≡ Some ps → scalars ps ≡ true
small_scalars s ps e =
    let k = small_some (points s) ps e in
    rw k.1.1 at (lower_points_scalar k.0 (points_scalars s k.0 k.1.0))

pub scalars_below : (ps : List ℕ) → scalars ps ≡ true → (i : ℕ) → get_or ps i 0 < 0x110000
unfolding scalars
scalars_below ps e i =
    ⊎_elim
    (λ (l : i < length ps). scalar_most (get_or ps i 0) (every_at scalar ps e i l))
    (λ (l : length ps ≤ i). rw (get_or-eq_default ps 0 {n = i} l) (omega arith))
    (lt_or_le i (length ps))
