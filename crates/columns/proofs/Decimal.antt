-- Numbers in base ten.
--     decimal_one, decimal_more    a number of one digit; one of more: the digits of its tenth and the last
--     ended_long                   a text with one octet behind it is one longer
--     decimal_most                 a number below ten to the k has at most k digits
-- Assumes nothing.
use Prim.Native.Nat.{ℕ, zero, suc, ◌+◌, ◌*◌, ◌/◌, ◌%◌, ◌^◌, ◌<◌, ◌≤◌}
use mathlib.Core.Path.{◌≡◌}
use mathlib.Core.Logic.{⊎_elim}
use mathlib.Core.List.{List, [], ◌∷◌, ◌++◌}
use native.Mathlib.Nat.{pow-succ'}
use native.Mathlib.Omega.{arith}
use borrow.Author.Tests.{lt-ltb, le-ltb}
use lib.ListN.{length, length-append}
use Rattle.octets.proofs.Lists.{lt_or_le}
use Rattle.columns.specs.Columns.{last_digits, decimal}
use Rattle.columns.specs.Columns.{ended}

-- one turn
last_one : (k n : ℕ) → n < 10 → last_digits (suc k) n ≡ (48 + n) ∷ []
unfolding last_digits
last_one k n l = rw (last_digits, lt-ltb n 10 l)

last_more : (k n : ℕ) → 10 ≤ n → last_digits (suc k) n ≡ last_digits k (n / 10) ++ ((48 + n % 10) ∷ [])
unfolding last_digits
last_more k n l = rw (last_digits, le-ltb n 10 l)

-- a count above the number is enough
enough : (k m n : ℕ) → n < k → n < m → last_digits k n ≡ last_digits m n
enough zero m n h l = absurd (omega arith)
enough (suc k) zero n h l = absurd (omega arith)
enough (suc k) (suc m) n h l =
    ⊎_elim (λ (s : n < 10). rw (last_one k n s, last_one m n s))
    (λ (s : 10 ≤ n). rw (last_more k n s, last_more m n s, enough k m (n / 10) (omega arith) (omega arith)))
    (lt_or_le n 10)

module _ (n : ℕ) where
  pub decimal_one : n < 10 → decimal n ≡ (48 + n) ∷ []
  unfolding decimal
  decimal_one l = last_one n n l

  pub decimal_more : 10 ≤ n → decimal n ≡ ended (decimal (n / 10)) (48 + n % 10)
  unfolding decimal ended
  decimal_more l = rw (last_more n n l, enough n (suc (n / 10)) (n / 10) (omega arith) (omega arith))

pub ended_long : (w : List ℕ) (x : ℕ) → length (ended w x) ≡ length w + 1
unfolding ended
ended_long w x = length-append w (x ∷ [])

pub decimal_most : (k n : ℕ) → n < 10 ^ suc k → length (decimal n) ≤ suc k
decimal_most zero n h = rw (decimal_one n (omega arith)) (omega arith)
decimal_most (suc k) n h =
    ⊎_elim (λ (s : n < 10). rw (decimal_one n s) (omega arith))
    (λ (s : 10 ≤ n).
    let l : n < 10 * 10 ^ suc k = rw (pow-succ' 10 (suc k)) at h in
    rw (decimal_more n s, ended_long) (omega (arith, decimal_most k (n / 10) (omega arith))))
    (lt_or_le n 10)
