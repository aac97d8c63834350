-- Numbers as digits, for any bias: how they are written, and that they are read back.
--     value_digit                 the digit of a digit's octet
--     some_same, value_below      a digit is below 36
--     Within, threshold_within    a threshold lies between 1 and 26
--     first_digit, left_over      a digit that is not the last, and what is left behind it
--     integer_last, integer_more  one digit is written
--     by_threshold                a number of one digit, or a smaller one behind its first digit
--     integer_any, integer_some   what bounds the turns does not matter; there is a digit
--     run_more, run_last          a digit that is read
--     run_integer                 the digits of q add q times the weight
-- Assumes nothing.
use Prim.Native.Nat.{ℕ, suc, zero, ◌+◌, ◌-◌, ◌*◌, ◌/◌, ◌%◌, ◌<◌, ◌≤◌}
use mathlib.Core.Path.{◌≡◌, refl, sym, ap, ◌∙◌}
use mathlib.Core.Bool.{true, cond}
use mathlib.Core.List.{List, [], ◌∷◌, ◌++◌}
use Rattle.std.specs.Prelude.{Some, None}
use mathlib.Core.Logic.{⊎_elim}
use native.Mathlib.Nat.{div-add-mod', div-le_self, mod-lt, mul_comm, mul_assoc, add-mul, add_assoc}
use native.Mathlib.Omega.{arith}
use borrow.Author.Tests.{leb-true, leb-false, lt-ltb, le-ltb, le-leb, lt-leb}
use lib.Dec.{leb}
use lib.ListN.{length}
use Rattle.octets.proofs.Lists.{lt_or_le}
use Rattle.octets.proofs.Tests.{by_test, and_right}
use Rattle.utf8.specs.Utf8.{between}
use Rattle.punycode.specs.Punycode.{digit, value, threshold, integer, landed, run}

value_digit : (v : ℕ) → v < 36 → value (digit v) ≡ Some v
unfolding value digit
value_digit v h = ⊎_elim small large (lt_or_le v 26)
  where
    small : v < 26 → value (digit v) ≡ Some v
    small l =
        let e : 97 + v - 97 ≡ v = omega arith in
        rw (lt-ltb v 26 l, le-leb 97 (97 + v) (omega arith), le-leb (97 + v) 122 (omega arith), e)

    large : 26 ≤ v → value (digit v) ≡ Some v
    large l =
        let e : 48 + (v - 26) - 48 + 26 ≡ v = omega arith in
        rw (le-ltb v 26 l, lt-leb 97 (48 + (v - 26)) (omega arith), lt-leb 65 (48 + (v - 26)) (omega arith), le-leb 48 (48 + (v - 26)) (omega arith), le-leb (48 + (v - 26)) 57 (omega arith), e)

pub some_same : (x y : ℕ) → Some x ≡ Some y → x ≡ y
some_same x y p = cc

between_last : (a b x : ℕ) → between a b x ≡ true → x ≤ b
between_last a b x e = leb-true x b (and_right (leb a x) (leb x b) e)

pub value_below : (c v : ℕ) → value c ≡ Some v → v < 36
unfolding value
value_below c v e =
    by_test (between 97 122 c)
    (λ t. omega (arith, some_same (c - 97) v (rw t at e), between_last 97 122 c t))
    (λ t.
    let e₁ : cond (between 65 90 c) (Some (c - 65)) (cond (between 48 57 c) (Some (c - 48 + 26)) None) ≡ Some v = rw t at e in
    by_test (between 65 90 c)
    (λ u. omega (arith, some_same (c - 65) v (rw u at e₁), between_last 65 90 c u))
    (λ u.
    let e₂ : cond (between 48 57 c) (Some (c - 48 + 26)) None ≡ Some v = rw u at e₁ in
    by_test (between 48 57 c)
    (λ x. omega (arith, some_same (c - 48 + 26) v (rw x at e₂), between_last 48 57 c x))
    (λ x. let z : ◌≡◌ {A = ℕ} 0 1 = none_some (rw x at e₂) in omega arith)))
  where
    none_some : None ≡ Some v → ◌≡◌ {A = ℕ} 0 1
    none_some p = cc

pub record Within (k bias : ℕ) : Type 0 where
  pub low : 1 ≤ threshold k bias
  pub high : threshold k bias ≤ 26

threshold_within : (k bias : ℕ) → Within k bias
unfolding threshold
threshold_within k bias =
    by_test (leb k bias)
    (λ p. record { low = rw p (omega arith); high = rw p (omega arith) })
    (λ p.
    by_test (leb (bias + 26) k)
    (λ q. record { low = rw (p, q) (omega arith); high = rw (p, q) (omega arith) })
    (λ q.
    let x : bias < k = leb-false k bias p in
    let y : k < bias + 26 = leb-false (bias + 26) k q in
    record { low = rw (p, q) (omega arith); high = rw (p, q) (omega arith) }))

-- the first digit of a number q that has more of them, and what is left behind it
abbrev pub first_digit : ℕ → ℕ → ℕ
first_digit t q = digit (t + (q - t) % (36 - t))

abbrev pub left_over : ℕ → ℕ → ℕ
left_over t q = (q - t) / (36 - t)

pub integer_last : (f bias k q : ℕ) → q < threshold k bias → integer f bias k q ≡ digit q ∷ []
unfolding integer
integer_last zero bias k q h = refl
integer_last (suc f) bias k q h = rw (integer, lt-ltb q (threshold k bias) h)

pub integer_more : (f bias k q : ℕ) → threshold k bias ≤ q
    → integer (suc f) bias k q ≡ first_digit (threshold k bias) q ∷ integer f bias (k + 36) (left_over (threshold k bias) q)
unfolding integer
integer_more f bias k q h = rw (integer, le-ltb q (threshold k bias) h)

-- what a law on numbers has to show, for a count of turns that is enough
module _ (P : ℕ → ℕ → ℕ → Type 0) (bias : ℕ)
    (last : (f k q : ℕ) → q < threshold k bias → q < 36 → P f k q)
    (more : (f k q : ℕ) → threshold k bias ≤ q → threshold k bias + (q - threshold k bias) % (36 - threshold k bias) < 36
    → left_over (threshold k bias) q < q → P f (k + 36) (left_over (threshold k bias) q) → P (suc f) k q) where
  pub by_threshold : (f k q : ℕ) → q ≤ f → P f k q
  by_threshold zero k q h = let x = threshold_within k bias in last zero k q (omega arith) (omega arith)
  by_threshold (suc f) k q h =
      let x = threshold_within k bias in
      ⊎_elim
      (λ (l : q < threshold k bias). last (suc f) k q l (omega arith))
      (λ (l : threshold k bias ≤ q).
      let r : (q - threshold k bias) % (36 - threshold k bias) < 36 - threshold k bias = mod-lt (q - threshold k bias) (omega arith) in
      let m : left_over (threshold k bias) q ≤ q - threshold k bias = div-le_self (q - threshold k bias) (36 - threshold k bias) in
      more f k q l (omega arith) (omega arith) (by_threshold f (k + 36) (left_over (threshold k bias) q) (omega arith)))
      (lt_or_le q (threshold k bias))

-- as many turns as the number says are enough
module _ (bias : ℕ) where
  integer_enough : (f k q : ℕ) → q ≤ f → (g : ℕ) → q ≤ g → integer f bias k q ≡ integer g bias k q
  integer_enough =
      by_threshold (λ f k q. (g : ℕ) → q ≤ g → integer f bias k q ≡ integer g bias k q) bias
      (λ f k q l i g j. integer_last f bias k q l ∙ sym (integer_last g bias k q l))
      (λ f k q l i m later. enough f k q l m later)
    where
      enough : (f k q : ℕ) → threshold k bias ≤ q → left_over (threshold k bias) q < q
          → ((g : ℕ) → left_over (threshold k bias) q ≤ g → integer f bias (k + 36) (left_over (threshold k bias) q) ≡ integer g bias (k + 36) (left_over (threshold k bias) q))
          → (g : ℕ) → q ≤ g → integer (suc f) bias k q ≡ integer g bias k q
      enough f k q l m later zero j = absurd (omega arith)
      enough f k q l m later (suc g) j =
          integer_more f bias k q l
          ∙ ap (λ (z : List ℕ). first_digit (threshold k bias) q ∷ z) (later g (omega arith))
          ∙ sym (integer_more g bias k q l)

pub integer_any : (f g bias k q : ℕ) → q ≤ f → q ≤ g → integer f bias k q ≡ integer g bias k q
integer_any f g bias k q h j = integer_enough bias f k q h g j

pub integer_some : (f bias k q : ℕ) → 1 ≤ length (integer f bias k q)
unfolding integer
integer_some zero bias k q = omega arith
integer_some (suc f) bias k q =
    ⊎_elim
    (λ (l : q < threshold k bias). rw (integer_last (suc f) bias k q l) (omega arith))
    (λ (l : threshold k bias ≤ q). rw (integer_more f bias k q l) (omega arith))
    (lt_or_le q (threshold k bias))

module _ (c d : ℕ) (s : List ℕ) (n old bias : ℕ) (out : List ℕ) (i w k : ℕ) (v : value c ≡ Some d) where
  pub run_more : threshold k bias ≤ d → run (c ∷ s) n old bias out i w k ≡ run s n old bias out (i + d * w) (w * (36 - threshold k bias)) (k + 36)
  unfolding run
  run_more h = rw (run, v, le-ltb d (threshold k bias) h)

  pub run_last : d < threshold k bias → run (c ∷ s) n old bias out i w k ≡ landed (run s) n old out (i + d * w)
  unfolding run
  run_last h = rw (run, v, lt-ltb d (threshold k bias) h)

-- q = t + r + m * u, with r < u
weighed : (q t r m u w : ℕ) → m * u + r ≡ q - t → t ≤ q → (t + r) * w + m * (w * u) ≡ q * w
weighed q t r m u w e h =
    let a : (t + r) * w + m * u * w ≡ (t + r + m * u) * w = sym (add-mul (t + r) (m * u) w) in
    let b : m * (w * u) ≡ m * u * w = rw (mul_comm w u) (sym (mul_assoc m u w)) in
    let c : t + r + m * u ≡ q = omega arith in
    rw (b, a, c)

module _ (bias : ℕ) (s : List ℕ) (n old : ℕ) (out : List ℕ) where
  -- what is claimed of a number
  abbrev Read : ℕ → ℕ → ℕ → Type 0
  Read f k q = (i w : ℕ) → run (integer f bias k q ++ s) n old bias out i w k ≡ landed (run s) n old out (i + q * w)

  read_last : (f k q : ℕ) → q < threshold k bias → q < 36 → Read f k q
  read_last f k q l h i w = rw (integer_last f bias k q l) (run_last (digit q) q s n old bias out i w k (value_digit q h) l)

  read_more : (f k q : ℕ) → threshold k bias ≤ q → threshold k bias + (q - threshold k bias) % (36 - threshold k bias) < 36
      → left_over (threshold k bias) q < q → Read f (k + 36) (left_over (threshold k bias) q) → Read (suc f) k q
  read_more f k q l h m later i w =
      rw (integer_more f bias k q l)
      (run_more _ (threshold k bias + (q - threshold k bias) % (36 - threshold k bias)) _ n old bias out i w k (value_digit _ h) (omega arith)
      ∙ later _ _
      ∙ ap (landed (run s) n old out)
      (add_assoc i _ _
      ∙ ap (λ (z : ℕ). i + z)
      (weighed q (threshold k bias) _ _ (36 - threshold k bias) w (div-add-mod' (q - threshold k bias) (36 - threshold k bias)) l)))

  pub run_integer : (f k q : ℕ) → q ≤ f → Read f k q
  run_integer = by_threshold Read bias read_last read_more
