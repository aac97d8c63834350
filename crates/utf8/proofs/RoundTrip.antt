-- What is written in UTF-8 reads back.
--     tails_none         no octet is missing: the code point, and then the rest
--     tails_one          one octet that lies in its range
--     points_lead        a first octet
--     scalar_most        no code point lies above U+10FFFF
--     points_one         the octets of one code point in front of a text
--     points_encoded     the octets of code points stand for them
-- Assumes nothing.
use Prim.Native.Nat.{ℕ, suc, zero, ◌+◌, ◌-◌, ◌*◌, ◌/◌, ◌%◌, ◌<◌, ◌≤◌}
use mathlib.Core.Path.{◌≡◌, refl, sym, ◌∙◌}
use mathlib.Core.Bool.{true, cond, ◌&&◌}
use mathlib.Core.List.{List, [], ◌∷◌, ◌++◌}
use Rattle.std.specs.Prelude.{Some, Option, None}
use mathlib.Core.Logic.{⊎_elim}
use native.Mathlib.Omega.{arith}
use borrow.Author.Tests.{ltb-true, leb-true, lt-ltb, le-ltb, le-leb, eqb-true}
use lib.Dec.{leb, ltb, eqb}
use Rattle.octets.specs.Options.{in_front}
use Rattle.octets.specs.Tests.{every}
use Rattle.octets.proofs.Lists.{lt_or_le}
use Rattle.octets.proofs.Tests.{by_test, and_left, and_right}
use Rattle.utf8.specs.declared.Lead.{Lead}
use Rattle.utf8.specs.Utf8.{lead_of, tails, points, encoded_one, encoded, scalar, scalars, lead}
use Rattle.utf8.proofs.Leading.{lead_ascii, lead_two}

pub tails_none : (s : List ℕ) (l h p : ℕ) → tails s 0 l h p ≡ in_front p (points s)
unfolding tails points in_front
tails_none [] l h p = refl
tails_none (x ∷ s) l h p = go (lead_of x) refl
  where
    go : (o : Option Lead) → lead_of x ≡ o → tails (x ∷ s) 0 l h p ≡ in_front p (points (x ∷ s))
    go None e = rw (tails, points, e)
    go (Some f) e = rw (tails, points, e)

pub tails_one : (x : ℕ) (s : List ℕ) (n l h p : ℕ) → l ≤ x → x ≤ h → tails (x ∷ s) (suc n) l h p ≡ tails s n 0x80 0xBF (p * 64 + (x - 0x80))
unfolding tails
tails_one x s n l h p a b = rw (tails, le-leb l x a, le-leb x h b)

pub points_lead : (x : ℕ) (s : List ℕ) (f : Lead) → lead_of x ≡ Some f → points (x ∷ s) ≡ tails s f.following f.low f.high f.bits
unfolding points
points_lead x s f e = rw (points, e)

-- a statement at each number below n
abbrev Upto : (ℕ → Type 0) → ℕ → Type 0
Upto P zero = Unit {0}
Upto P (suc n) = P n × Upto P n

up_to : (P : ℕ → Type 0) (n : ℕ) → Upto P n → (v : ℕ) → v < n → P v
up_to P zero h v l = absurd (omega arith)
up_to P (suc n) h v l =
    ⊎_elim
    (λ (k : v < n). up_to P n h.1 v k)
    (λ (k : n ≤ v). let e : n ≡ v = omega arith in rw e at h.0)
    (lt_or_le v n)

-- the first octets of three and of four, by their own part of the number
abbrev low_three : ℕ → ℕ
low_three v = cond (eqb v 0) 0xA0 0x80

abbrev high_three : ℕ → ℕ
high_three v = cond (eqb v 13) 0x9F 0xBF

abbrev low_four : ℕ → ℕ
low_four v = cond (eqb v 0) 0x90 0x80

abbrev high_four : ℕ → ℕ
high_four v = cond (eqb v 4) 0x8F 0xBF

first_two : (v : ℕ) → 2 ≤ v → v < 32 → lead_of (0xC0 + v) ≡ Some (lead 1 0x80 0xBF v)
first_two v a b =
    let e : 0xC0 + v - 0xC0 ≡ v = omega arith in
    rw e at (sym (lead_two (0xC0 + v) (omega arith) (omega arith)))

first_three : (v : ℕ) → v < 16 → lead_of (0xE0 + v) ≡ Some (lead 2 (low_three v) (high_three v) v)
unfolding lead_of
first_three =
    up_to (λ v. lead_of (0xE0 + v) ≡ Some (lead 2 (low_three v) (high_three v) v)) 16
    (refl, (refl, (refl, (refl, (refl, (refl, (refl, (refl, (refl, (refl, (refl, (refl, (refl, (refl, (refl, (refl, tt))))))))))))))))

first_four : (v : ℕ) → v < 5 → lead_of (0xF0 + v) ≡ Some (lead 3 (low_four v) (high_four v) v)
unfolding lead_of
first_four =
    up_to (λ v. lead_of (0xF0 + v) ≡ Some (lead 3 (low_four v) (high_four v) v)) 5 (refl, (refl, (refl, (refl, (refl, tt)))))

four_parts : (b c a p : ℕ) → a * 64 + b % 64 ≡ b → b * 64 + c % 64 ≡ c → c * 64 + p % 64 ≡ p
    → ((a * 64 + (0x80 + b % 64 - 0x80)) * 64 + (0x80 + c % 64 - 0x80)) * 64 + (0x80 + p % 64 - 0x80) ≡ p
four_parts b c a p x y z =
    let u : 0x80 + b % 64 - 0x80 ≡ b % 64 = omega arith in
    let v : 0x80 + c % 64 - 0x80 ≡ c % 64 = omega arith in
    let w : 0x80 + p % 64 - 0x80 ≡ p % 64 = omega arith in
    rw (u, v, w, x, y, z)

pub scalar_most : (p : ℕ) → scalar p ≡ true → p < 0x110000
unfolding scalar
scalar_most p v =
    by_test (ltb p 0xD800)
    (λ t. omega (arith, ltb-true p 0xD800 t))
    (λ t. ltb-true p 0x110000 (and_right (leb 0xE000 p) (ltb p 0x110000) (rw t at v)))

-- one code point in front of a text, by its number of octets
module _ (p : ℕ) (s : List ℕ) where
  one : p < 0x80 → points (p ∷ s) ≡ in_front p (points s)
  one a = points_lead p s (lead 0 0 0 p) (sym (lead_ascii p (omega arith))) ∙ tails_none s 0 0 p

  two : 0x80 ≤ p → p < 0x800 → points ((0xC0 + p / 64) ∷ (0x80 + p % 64) ∷ s) ≡ in_front p (points s)
  two a b =
      let e : p / 64 * 64 + (0x80 + p % 64 - 0x80) ≡ p = omega arith in
      points_lead (0xC0 + p / 64) _ (lead 1 0x80 0xBF (p / 64)) (first_two (p / 64) (omega arith) (omega arith))
      ∙ tails_one (0x80 + p % 64) s 0 0x80 0xBF (p / 64) (omega arith) (omega arith)
      ∙ tails_none s 0x80 0xBF _
      ∙ rw e

  -- the second octet of three, and then of four, lies in its range
  second_low : 0x800 ≤ p → low_three (p / 4096) ≤ 0x80 + p / 64 % 64
  second_low a =
      by_test (eqb (p / 4096) 0) (λ t. rw t (omega (arith, eqb-true (p / 4096) 0 t))) (λ t. rw t (omega arith))

  second_high : p < 0x10000 → scalar p ≡ true → 0x80 + p / 64 % 64 ≤ high_three (p / 4096)
  unfolding scalar
  second_high b v =
      by_test (eqb (p / 4096) 13)
      (λ t.
      let e : p / 4096 ≡ 13 = eqb-true (p / 4096) 13 t in
      rw t
      (⊎_elim
      (λ (l : p < 0xD800). omega arith)
      (λ (l : 0xD800 ≤ p).
      let w : (leb 0xE000 p && ltb p 0x110000) ≡ true = rw (le-ltb p 0xD800 l) at v in
      omega (arith, leb-true 0xE000 p (and_left (leb 0xE000 p) (ltb p 0x110000) w)))
      (lt_or_le p 0xD800)))
      (λ t. rw t (omega arith))

  three : 0x800 ≤ p → p < 0x10000 → scalar p ≡ true → points ((0xE0 + p / 4096) ∷ (0x80 + p / 64 % 64) ∷ (0x80 + p % 64) ∷ s) ≡ in_front p (points s)
  three a b v =
      let e : (p / 4096 * 64 + (0x80 + p / 64 % 64 - 0x80)) * 64 + (0x80 + p % 64 - 0x80) ≡ p = omega arith in
      points_lead (0xE0 + p / 4096) _ (lead 2 (low_three (p / 4096)) (high_three (p / 4096)) (p / 4096)) (first_three (p / 4096) (omega arith))
      ∙ tails_one (0x80 + p / 64 % 64) _ 1 _ _ (p / 4096) (second_low a) (second_high b v)
      ∙ tails_one (0x80 + p % 64) s 0 0x80 0xBF _ (omega arith) (omega arith)
      ∙ tails_none s 0x80 0xBF _
      ∙ rw e

  next_low : 0x10000 ≤ p → low_four (p / 262144) ≤ 0x80 + p / 4096 % 64
  next_low a =
      by_test (eqb (p / 262144) 0) (λ t. rw t (omega (arith, eqb-true (p / 262144) 0 t))) (λ t. rw t (omega arith))

  next_high : p < 0x110000 → 0x80 + p / 4096 % 64 ≤ high_four (p / 262144)
  next_high b =
      by_test (eqb (p / 262144) 4) (λ t. rw t (omega (arith, eqb-true (p / 262144) 4 t))) (λ t. rw t (omega arith))

  four : 0x10000 ≤ p → p < 0x110000
      → points ((0xF0 + p / 262144) ∷ (0x80 + p / 4096 % 64) ∷ (0x80 + p / 64 % 64) ∷ (0x80 + p % 64) ∷ s) ≡ in_front p (points s)
  four a b =
      let e = four_parts (p / 4096) (p / 64) (p / 262144) p (omega arith) (omega arith) (omega arith) in
      points_lead (0xF0 + p / 262144) _ (lead 3 (low_four (p / 262144)) (high_four (p / 262144)) (p / 262144)) (first_four (p / 262144) (omega arith))
      ∙ tails_one (0x80 + p / 4096 % 64) _ 2 _ _ (p / 262144) (next_low a) (next_high b)
      ∙ tails_one (0x80 + p / 64 % 64) _ 1 0x80 0xBF _ (omega arith) (omega arith)
      ∙ tails_one (0x80 + p % 64) s 0 0x80 0xBF _ (omega arith) (omega arith)
      ∙ tails_none s 0x80 0xBF _
      ∙ rw e

  pub points_one : scalar p ≡ true → points (encoded_one p ++ s) ≡ in_front p (points s)
  unfolding encoded_one
  points_one v =
      ⊎_elim
      (λ (a : p < 0x80). rw (lt-ltb p 0x80 a) (one a))
      (λ (a : 0x80 ≤ p).
      ⊎_elim
      (λ (b : p < 0x800). rw (le-ltb p 0x80 a, lt-ltb p 0x800 b) (two a b))
      (λ (b : 0x800 ≤ p).
      ⊎_elim
      (λ (c : p < 0x10000). rw (le-ltb p 0x80 a, le-ltb p 0x800 b, lt-ltb p 0x10000 c) (three b c v))
      (λ (c : 0x10000 ≤ p). rw (le-ltb p 0x80 a, le-ltb p 0x800 b, le-ltb p 0x10000 c) (four c (scalar_most p v)))
      (lt_or_le p 0x10000))
      (lt_or_le p 0x800))
      (lt_or_le p 0x80)

pub points_encoded : (ps : List ℕ) → scalars ps ≡ true → points (encoded ps) ≡ Some ps
unfolding encoded scalars every in_front points
points_encoded [] v = refl
points_encoded (p ∷ ps) v =
    points_one p (encoded ps) (and_left (scalar p) (scalars ps) v)
    ∙ rw (points_encoded ps (and_right (scalar p) (scalars ps) v))
