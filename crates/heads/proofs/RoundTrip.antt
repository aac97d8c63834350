-- A head that was written reads back, behind any mark and whatever follows; and what was read is written as it stood.
--     Fit                each number fits its octets
--     bits_low           the bits are below 16
--     head_kept          the numbers of a head that was written
--     clear_kept         what must be clear is clear in it
--     head_octets_lem    and it is made of octets
--     bits_back          the bits that were read, written again
--     octets_back        so the whole head
-- Assumes nothing.
use Prim.Native.Nat.{ℕ, ◌+◌, ◌*◌, ◌/◌, ◌%◌, ◌<◌, ◌≤◌}
use mathlib.Core.Path.{◌≡◌, refl, sym, ap, ◌∙◌}
use mathlib.Core.Bool.{Bool, true, false, cond, ◌&&◌}
use mathlib.Core.List.{List, ◌∷◌, ◌++◌}
use native.Mathlib.Omega.{arith}
use borrow.Author.Tests.{eqb-true, eqb-false, eq-eqb, lt-ltb}
use lib.Dec.{eqb}
use lib.ListN.{length, take, drop, replicate}
use Rattle.octets.specs.Octets.{AllOctets, all_zero}
use Rattle.octets.specs.Numbers.{number, digits}
use Rattle.octets.proofs.Joined.{append_octets, digits_octets}
use Rattle.octets.proofs.Lists.{drop_one, take_octets, drop_octets}
use Rattle.octets.proofs.Numerals.{number_digits, digits_number}
use Rattle.octets.proofs.Tests.{by_test}
use Rattle.octets.proofs.Zeros.{zero_true}
use Rattle.heads.specs.declared.Head.{Head}
use Rattle.heads.specs.Head.{head_length, time_limit, part, odd, bits, head_of, clear, bits_of, times, lengths, head_octets}
use Rattle.heads.proofs.Parts.{part_length, follows}

pub record Fit (n : Head) : Type 0 where
  pub address : n.address_length < 65536
  pub direct : n.direct_length < 65536
  pub gossip : n.gossip_length < 65536
  pub seen : n.last_seen ≤ time_limit
  pub stamp : n.timestamp ≤ time_limit
  pub heard : n.gossip_timestamp ≤ time_limit

-- a bit of the sum of the four
bit_is : (a : Bool) (x : ℕ) → x ≡ cond a 1 0 → eqb x 1 ≡ a
bit_is true x e = eq-eqb x 1 e
bit_is false x e = rw e

worth_of : (a : Bool) (w : ℕ) → cond a w 0 ≡ cond a 1 0 * w
worth_of true w = omega arith
worth_of false w = omega arith

at_most : (a : Bool) → cond a 1 0 ≤ 1
at_most true = omega arith
at_most false = omega arith

no_content : (all_zero (digits 3 0) && all_zero (digits 4 0)) ≡ true
unfolding digits all_zero
no_content = refl

module _ (n : Head) where
  sum_is : bits_of n ≡ cond n.seen 1 0 + cond n.direct 1 0 * 2 + cond n.gossip 1 0 * 4 + cond n.«mutual» 1 0 * 8
  unfolding bits_of
  sum_is = rw (worth_of n.direct 2, worth_of n.gossip 4, worth_of n.«mutual» 8)

  pub bits_low : bits_of n < 16
  bits_low = omega (arith, sum_is, at_most n.seen, at_most n.direct, at_most n.gossip, at_most n.«mutual»)

  half_is : bits_of n / 2 ≡ cond n.direct 1 0 + cond n.gossip 1 0 * 2 + cond n.«mutual» 1 0 * 4
  half_is = omega (arith, sum_is, at_most n.seen)

  quarter_is : bits_of n / 4 ≡ cond n.gossip 1 0 + cond n.«mutual» 1 0 * 2
  quarter_is = omega (arith, sum_is, at_most n.seen, at_most n.direct)

  eighth_is : bits_of n / 8 ≡ cond n.«mutual» 1 0
  eighth_is = omega (arith, sum_is, at_most n.seen, at_most n.direct, at_most n.gossip)

  -- two octets, the head, and any others
  module _ (a b : ℕ) (r : List ℕ) where
    at_length : part 2 3 (a ∷ b ∷ (head_octets n ++ r)) ≡ digits 2 n.address_length
    unfolding head_octets digits
    at_length = refl

    at_bits : bits (a ∷ b ∷ (head_octets n ++ r)) ≡ bits_of n
    unfolding head_octets digits
    at_bits = let e : bits_of n % 256 ≡ bits_of n = omega (arith, bits_low) in e

    at_clear : part 5 7 (a ∷ b ∷ (head_octets n ++ r)) ≡ digits 3 0
    unfolding head_octets digits
    at_clear = refl

    at_seen : part 8 15 (a ∷ b ∷ (head_octets n ++ r)) ≡ digits 8 n.last_seen
    unfolding head_octets times digits
    at_seen = refl

    at_stamp : part 16 23 (a ∷ b ∷ (head_octets n ++ r)) ≡ digits 8 n.timestamp
    unfolding head_octets times digits
    at_stamp = refl

    at_heard : part 24 31 (a ∷ b ∷ (head_octets n ++ r)) ≡ digits 8 n.gossip_timestamp
    unfolding head_octets times digits
    at_heard = refl

    at_direct : part 32 33 (a ∷ b ∷ (head_octets n ++ r)) ≡ digits 2 n.direct_length
    unfolding head_octets times lengths digits
    at_direct = refl

    at_gossip : part 34 35 (a ∷ b ∷ (head_octets n ++ r)) ≡ digits 2 n.gossip_length
    unfolding head_octets times lengths digits
    at_gossip = refl

    at_clear_too : part 36 39 (a ∷ b ∷ (head_octets n ++ r)) ≡ digits 4 0
    unfolding head_octets times lengths digits
    at_clear_too = refl

    pub head_kept : Fit n → head_of (a ∷ b ∷ (head_octets n ++ r)) ≡ n
    unfolding head_of
    head_kept f =
        λ i.
        record {
          address_length = (ap number at_length ∙ number_digits 2 n.address_length f.address) i;
          seen = (ap odd at_bits ∙ bit_is n.seen (bits_of n % 2) (omega (arith, sum_is, at_most n.seen))) i;
          direct =
              (ap (λ (x : ℕ). odd (x / 2)) at_bits ∙ bit_is n.direct (bits_of n / 2 % 2) (omega (arith, half_is, at_most n.direct))) i;
          gossip =
              (ap (λ (x : ℕ). odd (x / 4)) at_bits ∙ bit_is n.gossip (bits_of n / 4 % 2) (omega (arith, quarter_is, at_most n.gossip))) i;
          «mutual» =
              (ap (λ (x : ℕ). odd (x / 8)) at_bits ∙ bit_is n.«mutual» (bits_of n / 8 % 2) (omega (arith, eighth_is, at_most n.«mutual»))) i;
          last_seen = (ap number at_seen ∙ number_digits 8 n.last_seen (omega (arith, f.seen))) i;
          timestamp = (ap number at_stamp ∙ number_digits 8 n.timestamp (omega (arith, f.stamp))) i;
          gossip_timestamp = (ap number at_heard ∙ number_digits 8 n.gossip_timestamp (omega (arith, f.heard))) i;
          direct_length = (ap number at_direct ∙ number_digits 2 n.direct_length f.direct) i;
          gossip_length = (ap number at_gossip ∙ number_digits 2 n.gossip_length f.gossip) i;
        }

    pub clear_kept : clear (a ∷ b ∷ (head_octets n ++ r)) ≡ true
    unfolding clear
    clear_kept = rw (at_bits, at_clear, at_clear_too, lt-ltb (bits_of n) 16 bits_low) no_content

  times_octets : AllOctets (times n)
  unfolding times
  times_octets =
      append_octets (digits 8 n.last_seen) (digits 8 n.timestamp ++ digits 8 n.gossip_timestamp) (digits_octets 8 n.last_seen)
      (append_octets (digits 8 n.timestamp) (digits 8 n.gossip_timestamp) (digits_octets 8 n.timestamp) (digits_octets 8 n.gossip_timestamp))

  lengths_octets : AllOctets (lengths n)
  unfolding lengths
  lengths_octets =
      append_octets (digits 2 n.direct_length) (digits 2 n.gossip_length ++ digits 4 0) (digits_octets 2 n.direct_length)
      (append_octets (digits 2 n.gossip_length) (digits 4 0) (digits_octets 2 n.gossip_length) (digits_octets 4 0))

  pub head_octets_lem : AllOctets (head_octets n)
  unfolding head_octets
  head_octets_lem =
      append_octets (digits 2 n.address_length) (digits 1 (bits_of n) ++ (digits 3 0 ++ (times n ++ lengths n))) (digits_octets 2 n.address_length)
      (append_octets (digits 1 (bits_of n)) (digits 3 0 ++ (times n ++ lengths n)) (digits_octets 1 (bits_of n))
      (append_octets (digits 3 0) (times n ++ lengths n) (digits_octets 3 0) (append_octets (times n) (lengths n) times_octets lengths_octets)))

-- a bit has its worth
worth : (w n : ℕ) → cond (odd n) w 0 ≡ (n % 2) * w
worth w n =
    by_test (odd n)
    (λ t.
    let e : n % 2 ≡ 1 = eqb-true (n % 2) 1 t in
    rw (t, e) (omega arith))
    (λ f.
    let e : n % 2 ≡ 0 = omega (arith, eqb-false (n % 2) 1 f) in
    rw (f, e) (omega arith))

sum_back : (b : ℕ) → b < 16 → cond (odd b) 1 0 + cond (odd (b / 2)) 2 0 + cond (odd (b / 4)) 4 0 + cond (odd (b / 8)) 8 0 ≡ b
sum_back b h =
    let two : b / 4 ≡ b / 2 / 2 = omega arith in
    let three : b / 8 ≡ b / 4 / 2 = omega arith in
    let top : b / 8 % 2 ≡ b / 8 = omega arith in
    rw (worth 1 b, worth 2 (b / 2), worth 4 (b / 4), worth 8 (b / 8), top) (omega arith)

-- the octets of a part that is a number, or zero
part_digits : (at n : ℕ) (s : List ℕ) → at + n ≤ length s → AllOctets s → digits n (number (take n (drop at s))) ≡ take n (drop at s)
part_digits at n s h o =
    let e : digits (length (take n (drop at s))) (number (take n (drop at s))) ≡ take n (drop at s) =
    digits_number (take n (drop at s)) (take_octets n (drop at s) (drop_octets at s o)) in
    rw (part_length at n s h) at e

zero_part : (at n : ℕ) (s : List ℕ) → at + n ≤ length s → all_zero (take n (drop at s)) ≡ true → replicate n 0 ≡ take n (drop at s)
zero_part at n s h z = sym (zero_true (take n (drop at s)) z ∙ rw (part_length at n s h))

module _ (s : List ℕ) (low : bits s < 16) where
  pub bits_back : bits_of (head_of s) ≡ bits s
  unfolding bits_of head_of
  bits_back = sum_back (bits s) low

  module _ (zeros : all_zero (part 5 7 s) ≡ true) (zeros_too : all_zero (part 36 39 s) ≡ true) (l : head_length ≤ length s) (o : AllOctets s) where
    bit_octet : digits 1 (bits s) ≡ part 4 4 s
    unfolding digits
    bit_octet =
        let m : bits s % 256 ≡ bits s = omega arith in
        rw (drop_one s 4 (omega arith), m)

    clear_octets : digits 3 0 ≡ part 5 7 s
    unfolding digits
    clear_octets = zero_part 5 3 s (omega arith) zeros

    clear_too : digits 4 0 ≡ part 36 39 s
    unfolding digits
    clear_too = zero_part 36 4 s (omega arith) zeros_too

    length_octets : digits 2 (head_of s).address_length ≡ part 2 3 s
    unfolding head_of
    length_octets = part_digits 2 2 s (omega arith) o

    times_back : times (head_of s) ≡ take 24 (drop 8 s)
    unfolding times head_of
    times_back =
        rw (part_digits 8 8 s (omega arith) o, part_digits 16 8 s (omega arith) o, part_digits 24 8 s (omega arith) o, ← follows 16 8 8 s) (sym (follows 8 8 16 s))

    lengths_back : lengths (head_of s) ≡ take 8 (drop 32 s)
    unfolding lengths head_of
    lengths_back =
        rw (part_digits 32 2 s (omega arith) o, part_digits 34 2 s (omega arith) o, clear_too, ← follows 34 2 4 s) (sym (follows 32 2 6 s))

    pub octets_back : head_octets (head_of s) ≡ take 38 (drop 2 s)
    unfolding head_octets
    octets_back =
        rw (bits_back, bit_octet, length_octets, clear_octets, times_back, lengths_back, ← follows 8 24 8 s, ← follows 5 3 32 s, ← follows 4 1 35 s) (sym (follows 2 2 36 s))
