-- A number that is written digit by digit.
--     Going, going_begin .. going_full    what is written, and what is left
--     the ruleset                         going, for `put_integer`
-- Assumes nothing.
use Prim.Native.Nat.{ℕ, suc, ◌+◌, ◌-◌, ◌*◌, ◌%◌, ◌^◌, ◌<◌, ◌≤◌}
use mathlib.Core.Path.{◌≡◌, refl, ap, ◌∙◌}
use mathlib.Core.List.{List, [], ◌∷◌}
use native.Mathlib.Nat.{div-le_self, mod-lt}
use native.Mathlib.Omega.{arith}
use borrow.Author.Rules.{rules}
use mir.Syntax.{w64}
use mir.Val.{Fits}
use lib.ListN.{length, set}
use Rattle.octets.specs.Puts.{Written, TooLong}
use Rattle.punycode.specs.Punycode.{digit, integer}
use Rattle.punycode.specs.Steps.{Threshold}
use Rattle.punycode.proofs.Integers.{first_digit, left_over, integer_last, integer_more, integer_any, integer_some}
use Rattle.octets.proofs.Puts.{wrote_none, wrote_one, wrote_long, full_then}

-- a turn
integer_turn : (bias k q t : ℕ) → Threshold k bias t → t ≤ q → integer q bias k q ≡ first_digit t q ∷ integer (left_over t q) bias (k + 36) (left_over t q)
integer_turn bias k q t h l =
    let m : left_over t q ≤ q - t = div-le_self (q - t) (36 - t) in
    integer_any q (suc (q - 1)) bias k q (omega arith) (omega (arith, h.low))
    ∙ integer_more (q - 1) bias k q (rw (← h.same) l)
    ∙ rw (← h.same) (ap (λ (z : List ℕ). first_digit t q ∷ z) (integer_any (q - 1) (left_over t q) bias (k + 36) (left_over t q) (omega (arith, h.low)) (omega arith)))

pub record Going (d out : List ℕ) (at bias delta q k i : ℕ) : Type 0 where
  pub wrote : Written d at out i (integer delta bias 36 delta) (integer q bias k q)
  pub bound : k + 36 * q ≤ 36 + 36 * 2 ^ 56

pub going_begin : (d : List ℕ) (at bias delta : ℕ) → (at ≤ length d) × (delta < 2 ^ 56) → Going d d at bias delta delta 36 at
going_begin d at bias delta r = record { wrote = wrote_none d at _ r.0; bound = omega (arith, r.1) }

-- the digit of a turn has a value below 36
pub going_digit : (k bias q t : ℕ) → Threshold k bias t → t + (q - t) % (36 - t) < 36
going_digit k bias q t h = let m : (q - t) % (36 - t) < 36 - t = mod-lt (q - t) (omega (arith, h.high)) in omega arith

pub going_sum : (k bias q t : ℕ) → Threshold k bias t → Fits w64 (t + (q - t) % (36 - t))
going_sum k bias q t h = omega (arith, going_digit k bias q t h)

module _ (d out : List ℕ) (at bias delta q k i : ℕ) (g : Going d out at bias delta q k i) where
  pub going_kept : length out ≡ length d
  going_kept = wrote_long d at out i _ _ g.wrote

  module _ (t : ℕ) (h : Threshold k bias t) (x : ℕ) where
    pub going_last : x ≡ digit q → i < length out → q < t → Written d at (set out i x) (i + 1) (integer delta bias 36 delta) []
    going_last e l p =
        let f : integer q bias k q ≡ x ∷ [] = integer_last q bias k q (rw (← h.same) p) ∙ rw e in
        wrote_one d at out i x _ [] (rw f at g.wrote) l

    pub going_next : x ≡ first_digit t q → i < length out → t ≤ q → Going d (set out i x) at bias delta (left_over t q) (k + 36) (i + 1)
    going_next e l p =
        let m : left_over t q ≤ q - t = div-le_self (q - t) (36 - t) in
        record {
          wrote = wrote_one d at out i x _ _ (rw (integer_turn bias k q t h p, ← e) at g.wrote) l;
          bound = omega (arith, g.bound, h.low);
        }

  pub going_full : length d ≤ i → TooLong d at out (integer delta bias 36 delta)
  going_full l = full_then d at out i _ _ g.wrote out (record { long = omega (arith, going_kept, integer_some q bias k q); same = refl })

pub ruleset going = (going_begin, going_digit, going_sum, going_kept, going_last, going_next, going_full, rules)
