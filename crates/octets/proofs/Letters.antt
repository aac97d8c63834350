-- Lower case.
--     lower_below, lower_above, lower_capital    by where the octet lies
--     lower_is, lowered_is                       the library's word for it
--     by_case                                    what holds of an octet in lower case, by where the octet lies
--     lower_twice, lowered_twice                 what is in lower case stays as it is
--     lower_octet                                an octet stays one
--     length_lowered, get_d_lowered              a list's length stays, and each element is lower-cased
-- Assumes nothing.
use Prim.Native.Nat.{ℕ, ◌+◌, ◌<◌, ◌≤◌}
use mathlib.Core.Path.{◌≡◌, refl, sym}
use mathlib.Core.Logic.{⊎_elim}
use mathlib.Core.List.{List, [], ◌∷◌, map}
use Rattle.std.specs.Char.{to_ascii_lowercase}
use Rattle.std.proofs.lemmas.Bool.Decides.{nat_tests}
use native.Mathlib.Omega.{arith}
use borrow.Author.Tests.{le-leb, lt-leb}
use lib.ListN.{length, get_or, length-map, get_or-map}
use Rattle.octets.specs.Octets.{lower, lowered}
use Rattle.octets.proofs.Lists.{lt_or_le}

pub lower_below : (x : ℕ) → x < 65 → x ≡ lower x
unfolding lower
lower_below x h = rw (lt-leb 65 x h)

pub lower_above : (x : ℕ) → 90 < x → x ≡ lower x
unfolding lower
lower_above x h = rw (le-leb 65 x (omega arith), lt-leb x 90 h)

pub lower_capital : (x : ℕ) → 65 ≤ x → x ≤ 90 → x + 32 ≡ lower x
unfolding lower
lower_capital x h k = rw (le-leb 65 x h, le-leb x 90 k)

pub lower_is : (x : ℕ) → to_ascii_lowercase x ≡ lower x
unfolding lower
lower_is x = grind (arith, nat_tests)

pub lowered_is : (s : List ℕ) → map to_ascii_lowercase s ≡ lowered s
unfolding lowered
lowered_is [] = refl
lowered_is (x ∷ s) = rw (lower_is x, lowered_is s)

-- the three ways that an octet can go
pub by_case : (P : ℕ → Type 0) (x : ℕ) → (x < 65 → P x) → (90 < x → P x) → (65 ≤ x → x ≤ 90 → P (x + 32)) → P (lower x)
by_case P x low high capital =
    ⊎_elim
    (λ (h : x < 65). rw (← lower_below x h) (low h))
    (λ (h : 65 ≤ x).
    ⊎_elim
    (λ (k : 90 < x). rw (← lower_above x k) (high k))
    (λ (k : x ≤ 90). rw (← lower_capital x h k) (capital h k))
    (lt_or_le 90 x))
    (lt_or_le x 65)

pub lower_twice : (x : ℕ) → lower (lower x) ≡ lower x
lower_twice x =
    by_case (λ y. lower y ≡ y) x (λ h. sym (lower_below x h)) (λ h. sym (lower_above x h)) (λ h k. sym (lower_above (x + 32) (omega arith)))

pub lower_octet : (x : ℕ) → x < 256 → lower x < 256
lower_octet x h = by_case (λ y. y < 256) x (λ _. h) (λ _. h) (λ _ k. omega arith)

pub lowered_twice : (s : List ℕ) → lowered (lowered s) ≡ lowered s
unfolding lowered
lowered_twice [] = refl
lowered_twice (x ∷ s) = rw (lower_twice x, lowered_twice s)

pub length_lowered : (s : List ℕ) → length (lowered s) ≡ length s
unfolding lowered
length_lowered s = length-map s lower

pub get_d_lowered : (s : List ℕ) (i : ℕ) → get_or (lowered s) i 0 ≡ lower (get_or s i 0)
unfolding lower lowered
get_d_lowered s i = get_or-map lower s i 0
