-- What the writers of a head leave.
--     length_times, length_head    how long the times are, and the whole
--     times_put .. head_put        the numbers written
-- Assumes nothing.
use Prim.Native.Nat.{ℕ, ◌/◌}
use mathlib.Core.Path.{◌≡◌, refl, ap, ◌∙◌}
use mathlib.Core.List.{List, ◌++◌, append_assoc}
use native.Mathlib.Omega.{arith}
use borrow.Author.Rules.{rules}
use lib.ListN.{length}
use Rattle.octets.specs.Numbers.{digits}
use Rattle.octets.specs.Written.{put_at}
use Rattle.octets.proofs.Copying.{length_digits}
use Rattle.heads.specs.declared.Head.{Head}
use Rattle.heads.specs.Head.{head_length, bits_of, times, lengths, head_octets}
use Rattle.heads.proofs.Parts.{put_length, put_more, put_three}
use Rattle.heads.proofs.RoundTrip.{bits_low}

module _ (n : Head) where
  length_times : length (times n) ≡ 24
  unfolding times digits
  length_times = refl

  pub length_head : length (head_octets n) ≡ 38
  unfolding head_octets times lengths digits
  length_head = refl

  -- the bits and the clear octets behind them, which are written as one number
  bits_alone : digits 4 (bits_of n) ≡ digits 1 (bits_of n) ++ digits 3 0
  unfolding digits
  bits_alone =
      let z : bits_of n / 256 ≡ 0 = omega (arith, bits_low n) in
      rw z

  length_bits : length (digits 1 (bits_of n) ++ digits 3 0) ≡ 4
  unfolding digits
  length_bits = refl

  module _ (d : List ℕ) (l : length d ≡ head_length) where
    pub times_put : (o₁ o₂ o₃ : List ℕ) → o₁ ≡ put_at d 8 (digits 8 n.last_seen) → o₂ ≡ put_at o₁ 16 (digits 8 n.timestamp)
        → o₃ ≡ put_at o₂ 24 (digits 8 n.gossip_timestamp) → o₃ ≡ put_at d 8 (times n)
    unfolding times
    times_put o₁ o₂ o₃ e₁ e₂ e₃ =
        e₃
        ∙ rw (e₂, e₁)
        (put_three d (digits 8 n.last_seen) (digits 8 n.timestamp) (digits 8 n.gossip_timestamp) 8 8 8
        (length_digits 8 n.last_seen)
        (length_digits 8 n.timestamp)
        (omega arith))

    pub lengths_put : (o₁ o₂ o₃ : List ℕ) → o₁ ≡ put_at d 32 (digits 2 n.direct_length) → o₂ ≡ put_at o₁ 34 (digits 2 n.gossip_length)
        → o₃ ≡ put_at o₂ 36 (digits 4 0) → o₃ ≡ put_at d 32 (lengths n)
    unfolding lengths
    lengths_put o₁ o₂ o₃ e₁ e₂ e₃ =
        e₃
        ∙ rw (e₂, e₁)
        (put_three d (digits 2 n.direct_length) (digits 2 n.gossip_length) (digits 4 0) 32 2 2
        (length_digits 2 n.direct_length)
        (length_digits 2 n.gossip_length)
        (omega arith))

    pub head_put : (m : ℕ) (o₁ o₂ o₃ o₄ : List ℕ) → m ≡ bits_of n → o₁ ≡ put_at d 2 (digits 2 n.address_length) → o₂ ≡ put_at o₁ 4 (digits 4 m)
        → o₃ ≡ put_at o₂ 8 (times n) → o₄ ≡ put_at o₃ 32 (lengths n) → o₄ ≡ put_at d 2 (head_octets n)
    unfolding head_octets
    head_put m o₁ o₂ o₃ o₄ em e₁ e₂ e₃ e₄ =
        let x : List ℕ = digits 2 n.address_length in
        let y : List ℕ = digits 1 (bits_of n) ++ digits 3 0 in
        let lx : length x ≡ 2 = length_digits 2 n.address_length in
        let k : length (put_at d 2 x) ≡ length d = put_length d x 2 (omega arith) in
        e₄
        ∙ rw (e₃, e₂, e₁, em, bits_alone)
        (put_three (put_at d 2 x) y (times n) (lengths n) 4 4 24 length_bits length_times (omega arith)
        ∙ put_more d x (y ++ (times n ++ lengths n)) 2 2 lx (omega arith)
        ∙ ap (λ (t : List ℕ). put_at d 2 (x ++ t)) (append_assoc (digits 1 (bits_of n)) (digits 3 0) (times n ++ lengths n)))

pub ruleset putting = (times_put, lengths_put, head_put, rules)
