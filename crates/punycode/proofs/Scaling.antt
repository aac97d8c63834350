-- The bias, which is found by a loop.
--     Scaling, scale_begin .. scale_sum    what is left to be scaled comes to the same bias
--     the ruleset                          scaling, for `adapt`
-- Assumes nothing.
use Prim.Native.Nat.{ℕ, suc, zero, ◌+◌, ◌-◌, ◌*◌, ◌/◌, ◌^◌, ◌<◌, ◌≤◌}
use mathlib.Core.Path.{◌≡◌, refl, sym, ◌∙◌}
use mathlib.Core.Bool.{Bool}
use mathlib.Core.Logic.{⊎_elim}
use native.Mathlib.Nat.{div-le_self}
use native.Mathlib.Omega.{arith}
use borrow.Author.Rules.{rules}
use borrow.Author.Tests.{lt-ltb, le-ltb}
use mir.Syntax.{w64}
use mir.Val.{Fits}
use Rattle.octets.proofs.Lists.{lt_or_le}
use Rattle.punycode.specs.Punycode.{scaled, adapt}
use Rattle.punycode.specs.Steps.{Halved}

scaled_done : (f d k : ℕ) → d ≤ 455 → scaled f d k ≡ k + 36 * d / (d + 38)
unfolding scaled
scaled_done zero d k h = refl
scaled_done (suc f) d k h = rw (scaled, le-ltb 455 d h)

scaled_turn : (f d k : ℕ) → 455 < d → scaled (suc f) d k ≡ scaled f (d / 35) (k + 36)
unfolding scaled
scaled_turn f d k h = rw (scaled, lt-ltb 455 d h)

-- what bounds the turns does not matter, where it is enough
scaled_any : (f g d k : ℕ) → d ≤ f → d ≤ g → scaled f d k ≡ scaled g d k
scaled_any zero g d k h j = scaled_done zero d k (omega arith) ∙ sym (scaled_done g d k (omega arith))
scaled_any (suc f) zero d k h j = scaled_done (suc f) d k (omega arith) ∙ sym (scaled_done zero d k (omega arith))
scaled_any (suc f) (suc g) d k h j =
    ⊎_elim
    (λ (l : 455 < d). scaled_turn f d k l ∙ scaled_any f g (d / 35) (k + 36) (omega arith) (omega arith) ∙ sym (scaled_turn g d k l))
    (λ (l : d ≤ 455). scaled_done (suc f) d k l ∙ sym (scaled_done (suc g) d k l))
    (lt_or_le 455 d)

pub record Scaling (delta points : ℕ) (first : Bool) (d k : ℕ) : Type 0 where
  pub same : adapt delta points first ≡ scaled d d k
  pub bound : k + 36 * d ≤ 36 * 2 ^ 56

-- the sum that the loop begins with
module _ (delta points : ℕ) (first : Bool) (part : ℕ) (h : Halved delta first part) (r : (delta < 2 ^ 56) × (0 < points)) where
  small : part + part / points < 2 ^ 56
  small = omega (arith, r.0, h.most, div-le_self part points)

  pub scale_fits : Fits w64 (part + part / points)
  scale_fits = omega (arith, small)

  pub scale_begin : Scaling delta points first (part + part / points) 0
  unfolding adapt
  scale_begin = record { same = rw (← h.same); bound = omega (arith, small) }

module _ (delta points : ℕ) (first : Bool) (d k : ℕ) (h : Scaling delta points first d k) where
  pub scale_next : 455 < d → Scaling delta points first (d / 35) (k + 36)
  scale_next l =
      record {
        same = h.same ∙ scaled_any d (suc (d - 1)) d k (omega arith) (omega arith) ∙ scaled_turn (d - 1) d k l ∙ scaled_any (d - 1) (d / 35) (d / 35) (k + 36) (omega arith) (omega arith);
        bound = omega (arith, h.bound);
      }

  pub scale_end : d ≤ 455 → k + 36 * d / (d + 38) ≡ adapt delta points first
  scale_end l = sym (h.same ∙ scaled_done d d k l)

  -- the last sum fits, whatever is divided by
  pub scale_sum : (m : ℕ) → Fits w64 (k + 36 * d / m)
  scale_sum m = omega (arith, h.bound, div-le_self (36 * d) m)

pub ruleset scaling = (scale_fits, scale_begin, scale_next, scale_end, scale_sum, rules)
