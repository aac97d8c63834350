-- Numbers with the least octet first (T2): their bounds, the round trip, and what a loop knows that reads one from its last octet
-- down.
--     number_below                    octets stand for a number below 256 to their count
--     number_digits, digits_number    the round trip, both ways
--     Reading s at width n k          n is the number of the octets from k on
--     reading_begin .. reading_end    the loop's steps
-- Assumes nothing.
use Prim.Native.Nat.{ℕ, suc, zero, ◌+◌, ◌-◌, ◌*◌, ◌/◌, ◌%◌, ◌^◌, ◌<◌, ◌≤◌}
use mathlib.Core.Path.{◌≡◌, refl}
use mathlib.Core.List.{List, [], ◌∷◌}
use native.Mathlib.Nat.{pow-succ', one-le-pow, sub_self}
use native.Mathlib.Numerals.{add-one}
use native.Mathlib.Omega.{arith}
use borrow.Author.Rules.{rules}
use mir.Syntax.{w8, w64}
use mir.Val.{Fits}
use lib.ListN.{length, get_or, take, drop, length-take}
use Rattle.octets.specs.Octets.{AllOctets}
use Rattle.octets.specs.Numbers.{number, digits}
use Rattle.octets.proofs.Lists.{drop_one, given_octets, take_octets, drop_octets}

pub number_below : (s : List ℕ) (m : ℕ) → AllOctets s → length s ≤ m → number s < 256 ^ m
unfolding number
number_below [] m h l = one-le-pow m 256 (omega arith)
number_below (x ∷ s) zero h l = absurd (omega arith)
number_below (x ∷ s) (suc m) h l =
    let i : number s < 256 ^ m = number_below s m (λ i. h (suc i)) (omega arith) in
    rw (pow-succ' 256 m) (omega (arith, h 0))

pub number_digits : (width n : ℕ) → n < 256 ^ width → number (digits width n) ≡ n
unfolding number digits
number_digits zero n h = omega arith
number_digits (suc k) n h =
    let l : n < 256 * 256 ^ k = rw (pow-succ' 256 k) at h in
    rw (number_digits k (n / 256) (omega arith)) (omega arith)

pub digits_number : (s : List ℕ) → AllOctets s → digits (length s) (number s) ≡ s
unfolding number digits
digits_number [] h = refl
digits_number (x ∷ s) h =
    let o : x < 256 = h 0 in
    let low : (x + 256 * number s) % 256 ≡ x = omega arith in
    let high : (x + 256 * number s) / 256 ≡ number s = omega arith in
    rw (low, high, digits_number s (λ i. h (suc i)))

pub record Reading (s : List ℕ) (at width n k : ℕ) : Type 0 where
  pub upto : k ≤ width
  pub so_far : n ≡ number (take (width - k) (drop (at + k) s))

pub reading_begin : (s : List ℕ) (at width : ℕ) → Reading s at width 0 width
unfolding number
reading_begin s at width = record { upto = omega arith; so_far = rw (sub_self width) }

module _ (s : List ℕ) (at width n k : ℕ) (h : Reading s at width n k) where
  module _ (w : (width ≤ 8) × (at + width ≤ length s)) (p : 0 < k) where
    pub reading_within : at + (k - 1) < length s
    reading_within = omega (arith, w.0, w.1)

    -- the octets read so far are seven at most
    below : ((i : ℕ) → Fits w8 (get_or s i 0)) → n < 256 ^ 7
    below g =
        let octets : AllOctets (take (width - k) (drop (at + k) s)) = take_octets (width - k) (drop (at + k) s) (drop_octets (at + k) s (given_octets s g)) in
        rw h.so_far (number_below (take (width - k) (drop (at + k) s)) 7 octets (simp length-take (omega (arith, w.0))))

    pub times_fits : ((i : ℕ) → Fits w8 (get_or s i 0)) → Fits w64 (n * 256)
    times_fits g = omega (arith, below g)

    pub sum_fits : ((i : ℕ) → Fits w8 (get_or s i 0)) → (x : ℕ) → x ≡ get_or s (at + (k - 1)) 0 → Fits w64 (n * 256 + x)
    sum_fits g x e = omega (arith, below g, (g (at + (k - 1))).fits)

    pub reading_next : (x : ℕ) → x ≡ get_or s (at + (k - 1)) 0 → Reading s at width (n * 256 + x) (k - 1)
    unfolding number
    reading_next x e =
        let a : width - (k - 1) ≡ (width - k) + 1 = omega arith in
        let b : at + (k - 1) + 1 ≡ at + k = omega arith in
        record {
          upto = omega arith;
          so_far = rw (a, add-one, drop_one s (at + (k - 1)) reading_within, b, ← h.so_far) (omega (arith, e));
        }

  pub reading_end : k ≤ 0 → n ≡ number (take width (drop at s))
  reading_end l =
      let a : width - k ≡ width = omega arith in
      let b : at + k ≡ at = omega arith in
      rw (a, b) at h.so_far

pub ruleset reading = (reading_begin, reading_within, times_fits, sum_fits, reading_next, reading_end, rules)
