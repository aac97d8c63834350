-- Texts that differ only as a text and its lower case may, by whichever rule.
--     Near                            two octets that are equal, or a capital of ASCII and its small letter, or both of 128 and above
--     Alike                           two texts of one length with such octets at each place
--     alike_lowered, alike_octetwise  a text and its lower case
--     alike_length, alike_at          the length, and the octets at a place
--     alike_every, alike_append       a test of every octet, and texts that are joined
--     near_sign, near_octet           what octets below 65 stay, and that an octet stays one
-- Assumes nothing.
use Prim.Native.Nat.{ℕ, zero, suc, ◌+◌, ◌-◌, ◌<◌, ◌≤◌}
use mathlib.Core.Path.{◌≡◌, refl, sym, ap, ◌∙◌}
use mathlib.Core.Bool.{Bool, true, false, cond, not, ◌&&◌, ◌||◌}
use mathlib.Core.List.{List, [], ◌∷◌, ◌++◌}
use mathlib.Core.Logic.{⊎_elim}
use native.Mathlib.Omega.{arith}
use borrow.Author.Tests.{leb-true, ne_eqb, lt-ltb, le-ltb}
use lib.Dec.{leb, ltb, eqb}
use lib.ListN.{length, get_or}
use Rattle.octets.specs.Octets.{lower, lowered}
use Rattle.octets.specs.Tests.{every}
use Rattle.octets.proofs.Lists.{lt_or_le}
use Rattle.octets.proofs.Letters.{by_case}
use Rattle.octets.proofs.Tests.{and_left, and_right}
use Rattle.utf8.specs.Utf8.{between}
use Rattle.utf8.specs.Steps.{all_ascii, second_of, first_of, lower_at, octetwise}
use Rattle.utf8.proofs.Octetwise.{at_ascii, at_second, at_first}

pub data Near : ℕ → ℕ → Type 0 where
  equal : {x : ℕ} → Near x x
  letters : {x : ℕ} → 65 ≤ x → x ≤ 90 → Near x (x + 32)
  high : {x y : ℕ} → 128 ≤ x → 128 ≤ y → y < 256 → Near x y

pub data Alike : List ℕ → List ℕ → Type 0 where
  nothing : Alike [] []
  one : {x y : ℕ} {s t : List ℕ} → Near x y → Alike s t → Alike (x ∷ s) (y ∷ t)

near_lower : (x : ℕ) → Near x (lower x)
near_lower x = by_case (λ y. Near x y) x (λ _. equal) (λ _. equal) (λ h k. letters h k)

-- what holds of both ways of a test
on : (P : ℕ → Type 0) (b : Bool) (u v : ℕ) → (b ≡ true → P u) → P v → P (cond b u v)
on P true u v f g = f refl
on P false u v f g = g

module _ (a y : ℕ) (h : 0x80 ≤ y) (k : y < 0xC0) where
  up : (n : ℕ) → n ≤ 32 → Near y (y + n)
  up n l = high {y = y + n} h (omega arith) (omega arith)

  down : 0xA0 ≤ y → Near y (y - 32)
  down l = high {y = y - 32} h (omega arith) (omega arith)

  near_second : Near y (second_of a y)
  unfolding second_of
  near_second =
      on P (eqb a 0xC3 && (between 0x80 0x9E y && not (eqb y 0x97))) (y + 32) _ (λ _. up 32 (omega arith))
      (on P (eqb a 0xCE && between 0x91 0x9F y) (y + 32) _ (λ _. up 32 (omega arith))
      (on P (eqb a 0xCE && (between 0xA0 0xAB y && not (eqb y 0xA2))) (y - 32) _
      (λ e. down (leb-true 0xA0 y (and_left (leb 0xA0 y) (leb y 0xAB) (and_left (between 0xA0 0xAB y) (not (eqb y 0xA2)) (and_right (eqb a 0xCE) _ e)))))
      (on P (eqb a 0xD0 && between 0x80 0x8F y) (y + 16) _ (λ _. up 16 (omega arith))
      (on P (eqb a 0xD0 && between 0x90 0x9F y) (y + 32) _ (λ _. up 32 (omega arith))
      (on P (eqb a 0xD0 && between 0xA0 0xAF y) (y - 32) y
      (λ e. down (leb-true 0xA0 y (and_left (leb 0xA0 y) (leb y 0xAF) (and_right (eqb a 0xD0) _ e))))
      equal)))))
    where
      P : ℕ → Type 0
      P z = Near y z

near_first : (x b : ℕ) → 0xC0 ≤ x → Near x (first_of x b)
unfolding first_of
near_first x b h =
    on P (eqb x 0xCE && (between 0xA0 0xAB b && not (eqb b 0xA2))) 0xCF _ (λ _. high (omega arith) (omega arith) (omega arith))
    (on P (eqb x 0xD0 && (between 0x80 0x8F b || between 0xA0 0xAF b)) 0xD1 x (λ _. high (omega arith) (omega arith) (omega arith)) equal)
  where
    P : ℕ → Type 0
    P z = Near x z

near_at : (a x b : ℕ) → Near x (lower_at a x b)
near_at a x b =
    ⊎_elim
    (λ (h : x < 0x80). rw (at_ascii a x b h) (near_lower x))
    (λ (h : 0x80 ≤ x).
    ⊎_elim
    (λ (k : x < 0xC0). rw (at_second a x b h k) (near_second a x h k))
    (λ (k : 0xC0 ≤ x). rw (at_first a x b k) (near_first x b k))
    (lt_or_le x 0xC0))
    (lt_or_le x 0x80)

pub alike_octetwise : (a : ℕ) (s : List ℕ) → Alike s (octetwise a s)
unfolding octetwise
alike_octetwise a [] = nothing
alike_octetwise a (x ∷ s) = one (near_at a x (get_or s 0 0)) (alike_octetwise x s)

pub alike_lowered : (s : List ℕ) → Alike s (lowered s)
unfolding lowered
alike_lowered [] = nothing
alike_lowered (x ∷ s) = one (near_lower x) (alike_lowered s)

pub alike_length : {s t : List ℕ} → Alike s t → length t ≡ length s
alike_length nothing = refl
alike_length (one n a) = ap suc (alike_length a)

pub alike_at : {s t : List ℕ} → Alike s t → (i : ℕ) → Near (get_or s i 0) (get_or t i 0)
alike_at nothing i = equal
alike_at (one n a) zero = n
alike_at (one n a) (suc i) = alike_at a i

pub alike_every : (q : ℕ → Bool) → ((x y : ℕ) → Near x y → q y ≡ q x) → {s t : List ℕ} → Alike s t → every q t ≡ every q s
unfolding every
alike_every q keeps nothing = refl
alike_every q keeps (one {x} {y} n a) = rw (keeps x y n, alike_every q keeps a)

pub alike_append : {a b c d : List ℕ} → Alike a b → Alike c d → Alike (a ++ c) (b ++ d)
alike_append nothing r = r
alike_append (one n a) r = one n (alike_append a r)

-- a sign below the letters stays what it is, and nothing becomes one
pub near_sign : (d : ℕ) → d < 65 → {x y : ℕ} → Near x y → eqb y d ≡ eqb x d
near_sign d l equal = refl
near_sign d l (letters {x} h k) = ne_eqb (x + 32) d (λ e. omega arith) ∙ sym (ne_eqb x d (λ e. omega arith))
near_sign d l (high {x} {y} h k m) = ne_eqb y d (λ e. omega arith) ∙ sym (ne_eqb x d (λ e. omega arith))

near_ascii : (x y : ℕ) → Near x y → ltb y 128 ≡ ltb x 128
near_ascii x y equal = refl
near_ascii x y (letters h k) = lt-ltb (x + 32) 128 (omega arith) ∙ sym (lt-ltb x 128 (omega arith))
near_ascii x y (high h k l) = le-ltb y 128 k ∙ sym (le-ltb x 128 h)

-- of two such texts both are ASCII or none
pub alike_ascii : {s t : List ℕ} → Alike s t → all_ascii t ≡ all_ascii s
alike_ascii a = alike_every (λ x. ltb x 128) near_ascii a

pub near_octet : {x y : ℕ} → Near x y → x < 256 → y < 256
near_octet equal b = b
near_octet (letters {x} h k) b = omega arith
near_octet (high h k l) b = l
