-- The way to the next code point, and all passes.
--     round_step .. round_full                the sums of a round fit, and what it comes to
--     Rounds, rounds_begin .. rounds_full     the passes so far, and those that are left
--     the rulesets                            rounding for `round`, rounds for `passes`
-- Assumes nothing.
use Prim.Native.Nat.{ℕ, ◌+◌, ◌-◌, ◌*◌, ◌^◌, ◌<◌, ◌≤◌}
use mathlib.Core.Path.{◌≡◌, refl, sym, ◌∙◌}
use mathlib.Core.List.{List, []}
use Rattle.std.specs.Prelude.{Option, Some, None, min}
use Rattle.std.specs.List.{filter, reduce}
use lib.Dec.{leb}
use native.Mathlib.Nat.{mul-le-mul_left, mul-le-mul_right, add-mul}
use native.Mathlib.Omega.{arith}
use borrow.Author.Rules.{rules}
use mir.Syntax.{w64}
use mir.Val.{Fits}
use lib.ListN.{length}
use Rattle.octets.specs.Puts.{Written, TooLong}
use Rattle.punycode.specs.Punycode.{least, pass, passes, numbers}
use Rattle.coder.specs.Steps.{Ready, Passing, Stopped, Passes, Able, Rounding, Ending, Rounded, Points, Begins}
use Rattle.coder.specs.declared.Coder.{Coder}
use Rattle.punycode.proofs.Enough.{found, passes_none, passes_next, least_most}
use Rattle.coder.proofs.Seeking.{least_is}
use Rattle.octets.proofs.Puts.{wrote_none, wrote_then, wrote_long, full_then}

-- the coder at the next code point m, before its pass
abbrev moved : ℕ → ℕ → Coder → Coder
moved n m s = record { delta = s.delta + (m - n) * (s.h + 1); bias = s.bias; h = s.h; at = s.at }

-- `round`
module _ (room : ℕ) (ps : List ℕ) (n m : ℕ) (s : Coder) (h : Able room ps n m s) where
  step_most : (m - n) * (s.h + 1) ≤ (m - n) * (length ps + room + 2)
  step_most = mul-le-mul_left (m - n) (omega (arith, h.inside, h.counted))

  -- n and the step together are m
  whole : n * (length ps + room + 2) + (m - n) * (length ps + room + 2) ≡ m * (length ps + room + 2)
  whole =
      let a : n + (m - n) ≡ m = omega (arith, h.from) in
      sym (add-mul n (m - n) (length ps + room + 2)) ∙ rw a

  sum_most : s.delta + (m - n) * (s.h + 1) ≤ m * (length ps + room + 2)
  sum_most = omega (arith, h.sum, step_most, whole)

  all_most : m * (length ps + room + 2) < 2 ^ 55
  all_most =
      let a : m * (length ps + room + 2) ≤ 0x110000 * (length ps + room + 2) = mul-le-mul_right (length ps + room + 2) (omega (arith, h.most)) in
      omega (arith, h.few, h.short)

  pub round_step : Fits w64 ((m - n) * (s.h + 1))
  round_step = omega (arith, sum_most, all_most)

  pub round_sum : Fits w64 (s.delta + (m - n) * (s.h + 1))
  round_sum = omega (arith, sum_most, all_most)

  pub round_count : Fits w64 (s.h + 1)
  round_count = omega (arith, h.inside, h.counted, h.short)

  pub round_ready : Ready room (length ps) (moved n m s)
  round_ready = record { inside = h.inside; counted = h.counted; short = h.short; few = omega (arith, sum_most, all_most, h.few) }

module _ (d e : List ℕ) (b n m : ℕ) (ps : List ℕ) (s : Coder) (h : Able (length d) ps n m s) (r : Option Coder) where
  pub round_on : (t : Coder) → r ≡ Some t → Passes d e b m ps (moved n m s) r
      → Rounding d e b n m ps s (record { delta = t.delta + 1; bias = t.bias; h = t.h; at = t.at })
  round_on t a p =
      let k : Passing d e b m ps (moved n m s) t = rw a at p in
      record {
        wrote = k.wrote;
        sum = omega (arith, k.grows, sum_most (length d) ps n m s h, add-mul m 1 (length ps + length d + 2));
        counted = k.counted;
      }

  pub round_more : (t : Coder) → r ≡ Some t → Passes d e b m ps (moved n m s) r
      → Fits w64 (t.delta + 1)
  round_more t a p =
      let k : Passing d e b m ps (moved n m s) t = rw a at p in
      omega (arith, k.grows, sum_most (length d) ps n m s h, all_most (length d) ps n m s h, h.few)

  pub round_full : r ≡ None → Passes d e b m ps (moved n m s) r → Ending d e b n m ps s
  round_full a p =
      let k : Stopped d e b m ps (moved n m s) = rw a at p in
      record { long = k.long }

pub ruleset rounding = (round_step, round_sum, round_count, round_ready, round_on, round_more, round_full, rules)

-- `passes`
pub record Rounds (d out ps : List ℕ) (b at : ℕ) (s : Coder) (n : ℕ) : Type 0 where
  pub wrote : Written d at out s.at (numbers ps b) (passes (length ps) ps b n s.delta s.bias s.h)
  pub counted : s.h ≤ s.at
  pub sum : s.delta ≤ n * (length ps + length d + 2)
  pub upto : n ≤ 0x110000
  pub points : Points (length d) ps
  pub kept : length out ≡ length d

pub rounds_begin : (d ps : List ℕ) (b at : ℕ) → Begins (length d) ps b at → Rounds d d ps b at (record { delta = 0; bias = 72; h = b; at = at }) 128
rounds_begin d ps b at h =
    record {
      wrote = wrote_none d at _ h.inside;
      counted = h.counted;
      sum = omega arith;
      upto = omega arith;
      points = h.points;
      kept = refl;
    }

module _ (d out ps : List ℕ) (b at : ℕ) (s : Coder) (n : ℕ) (g : Rounds d out ps b at s n) where
  module _ (f : Option ℕ) where
    pub rounds_end : f ≡ None → f ≡ reduce min (filter (λ c. leb n c) ps) → Written d at out s.at (numbers ps b) []
    rounds_end a e = rw (passes_none (length ps) ps b n s.delta s.bias s.h (sym (least_is n ps f e) ∙ a)) at g.wrote

    module _ (m : ℕ) (a : f ≡ Some m) (e : f ≡ reduce min (filter (λ c. leb n c) ps)) where
      there : least n ps ≡ Some m
      there = sym (least_is n ps f e) ∙ a

      rounds_below : m < 0x110000
      rounds_below = least_most 0x110000 n ps g.points.below m there

      rounds_from : n ≤ m
      rounds_from = (found n m ps there).from

      pub rounds_able : Able (length out) ps n m s
      rounds_able =
          record {
            inside = omega (arith, g.wrote.room, g.kept);
            counted = g.counted;
            short = omega (arith, g.kept, g.points.short);
            few = g.points.few;
            from = rounds_from;
            most = rounds_below;
            sum = rw g.kept g.sum;
          }

      pub rounds_less : 0x110000 - (m + 1) < 0x110000 - n
      rounds_less = omega (arith, rounds_below, rounds_from)

      pub rounds_fits : Fits w64 (m + 1)
      rounds_fits = omega (arith, rounds_below)

      ahead : Written d at out s.at (numbers ps b) (pass (passes (length ps) ps b (m + 1)) b m ps (s.delta + (m - n) * (s.h + 1)) s.bias s.h)
      ahead = rw (passes_next ps b n s.delta s.bias s.h m there) at g.wrote

      module _ (r : Option Coder) (out₁ : List ℕ) where
        pub rounds_next : (t : Coder) → r ≡ Some t → Rounded out out₁ b n m ps s r → Rounds d out₁ ps b at t (m + 1)
        rounds_next t q p =
            let k : Rounding out out₁ b n m ps s t = rw q at p in
            let w = wrote_then d at out s.at _ _ ahead out₁ t.at _ (k.wrote (passes (length ps) ps b (m + 1))) in
            record {
              wrote = w;
              counted = k.counted;
              sum = rw g.kept at k.sum;
              upto = omega (arith, rounds_below);
              points = g.points;
              kept = wrote_long d at out₁ t.at _ _ w;
            }

        pub rounds_full : r ≡ None → Rounded out out₁ b n m ps s r → TooLong d at out₁ (numbers ps b)
        rounds_full q p =
            let k : Ending out out₁ b n m ps s = rw q at p in
            full_then d at out s.at _ _ ahead out₁ (k.long (passes (length ps) ps b (m + 1)))

pub ruleset rounds = (rounds_begin, rounds_end, rounds_able, rounds_less, rounds_fits, rounds_next, rounds_full, rules)
