-- Tests and what they say.
--     by_test                     the two ways that a test can go
--     and_left, and_right         what an "and" that holds says
--     or_left                     what an "or" that does not hold says
--     same_bool                   two tests that were compared
--     all_below, all_below_lem    a test that passes at each number below another, by computing it
-- Assumes nothing.
use Prim.Native.Nat.{ℕ, zero, suc, ◌<◌, ◌≤◌}
use mathlib.Core.Path.{◌≡◌, refl, sym}
use mathlib.Core.Logic.{⊎_elim}
use mathlib.Core.Bool.{Bool, true, false, ◌&&◌, ◌||◌, beq, false≢true}
use native.Mathlib.Omega.{arith}
use Rattle.octets.proofs.Lists.{lt_or_le}

pub by_test : {P : Type 0} (b : Bool) → (b ≡ true → P) → (b ≡ false → P) → P
by_test true t f = t refl
by_test false t f = f refl

pub and_left : (a b : Bool) → (a && b) ≡ true → a ≡ true
and_left true b e = refl
and_left false b e = absurd (false≢true e)

pub and_right : (a b : Bool) → (a && b) ≡ true → b ≡ true
and_right true b e = e
and_right false b e = absurd (false≢true e)

pub or_left : (a b : Bool) → (a || b) ≡ false → a ≡ false
or_left true b e = e
or_left false b e = refl

pub same_bool : (a b : Bool) → beq a b ≡ true → a ≡ b
same_bool true true e = refl
same_bool true false e = sym e
same_bool false true e = e
same_bool false false e = refl

abbrev pub all_below : (ℕ → Bool) → ℕ → Bool
all_below test zero = true
all_below test (suc n) = test n && all_below test n

pub all_below_lem : (test : ℕ → Bool) (n : ℕ) → all_below test n ≡ true → (x : ℕ) → x < n → test x ≡ true
all_below_lem test zero e x h = absurd (omega arith)
all_below_lem test (suc n) e x h =
    ⊎_elim
    (λ (l : x < n). all_below_lem test n (and_right (test n) (all_below test n) e) x l)
    (λ (l : n ≤ x). let q : x ≡ n = omega arith in rw q (and_left (test n) (all_below test n) e))
    (lt_or_le x n)
