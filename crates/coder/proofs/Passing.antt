-- A turn of the coder, and a pass.
--     turn_below, turn_above, turn_here, turn_full    the code point at hand is below n, above it, or n
--     turn_asks, turn_counts, turn_bias               every sum of a turn fits
--     Walk, walk_begin .. walk_end                    a pass, as far as it is
--     the rulesets                                    turning for `turn`, walking for `pass`
-- Assumes nothing.
use Prim.Native.Nat.{ℕ, ◌+◌, ◌^◌, ◌<◌, ◌≤◌}
use mathlib.Core.Path.{◌≡◌, refl}
use Rattle.std.specs.Prelude.{Option, Some, None}
use mathlib.Core.List.{List, [], ◌∷◌}
use native.Mathlib.Omega.{arith}
use borrow.Author.Rules.{rules}
use mir.Syntax.{w64}
use mir.Val.{Fits}
use lib.Dec.{eqb}
use lib.ListN.{length, get_or, drop}
use Rattle.octets.specs.Puts.{Written, TooLong, Puts}
use Rattle.octets.proofs.Lists.{drop_one, drop_done}
use Rattle.punycode.specs.Punycode.{adapt, integer, pass}
use Rattle.coder.specs.Steps.{Turned, Ready, Turning, Stopping, Passing, Stopped}
use Rattle.coder.specs.declared.Coder.{Coder}
use Rattle.octets.proofs.Puts.{wrote_none, wrote_then, wrote_long, wrote_before, full_before, wrote_counts, full_then}
use Rattle.punycode.proofs.Integers.{integer_some}
use Rattle.punycode.proofs.Turns.{pass_below, pass_here, pass_above}

-- `turn`
module _ (d : List ℕ) (b n c : ℕ) (s : Coder) (h : Ready (length d) 1 s) where
  pub turn_below : c < n → Turning d d b n c s (record { delta = s.delta + 1; bias = s.bias; h = s.h; at = s.at })
  turn_below l =
      record {
        wrote = λ after rest. rw (pass_below after b n c rest s.delta s.bias s.h l) (wrote_none d s.at _ h.inside);
        grows = omega arith;
        counted = h.counted;
      }

  pub turn_above : n < c → Turning d d b n c s s
  turn_above l =
      record {
        wrote = λ after rest. rw (pass_above after b n c rest s.delta s.bias s.h l) (wrote_none d s.at _ h.inside);
        grows = omega arith;
        counted = h.counted;
      }

  pub turn_here : (e : List ℕ) (m k : ℕ) (r : Option ℕ) → r ≡ Some m → Puts d e s.at (integer s.delta s.bias 36 s.delta) r → k ≡ adapt s.delta (s.h + 1) (eqb s.h b)
      → n ≤ c → c ≤ n → Turning d e b n c s (record { delta = 0; bias = k; h = s.h + 1; at = m })
  turn_here e m k r a p q l j =
      let w : Written d s.at e m (integer s.delta s.bias 36 s.delta) [] = rw a at p in
      record {
        wrote = λ after rest. rw (pass_here after b n c rest s.delta s.bias s.h (omega arith), ← q) (wrote_before d s.at e m _ _ w);
        grows = omega arith;
        counted = omega (arith, h.counted, wrote_counts d s.at e m _ w, integer_some s.delta s.bias 36 s.delta);
      }

  pub turn_full : (e : List ℕ) (r : Option ℕ) → r ≡ None → Puts d e s.at (integer s.delta s.bias 36 s.delta) r → n ≤ c → c ≤ n → Stopping d e b n c s
  turn_full e r a p l j =
      let w : TooLong d s.at e (integer s.delta s.bias 36 s.delta) = rw a at p in
      record { long = λ after rest. rw (pass_here after b n c rest s.delta s.bias s.h (omega arith)) (full_before d s.at e _ _ w) }

  pub turn_asks : (s.at ≤ length d) × (s.delta < 2 ^ 56)
  turn_asks = (h.inside, omega (arith, h.few))

  pub turn_counts : Fits w64 (s.h + 1)
  turn_counts = omega (arith, h.inside, h.counted, h.short)

  pub turn_bias : (s.delta < 2 ^ 56) × (0 < s.h + 1)
  turn_bias = (omega (arith, h.few), omega arith)

pub ruleset turning = (turn_below, turn_above, turn_here, turn_full, turn_asks, turn_counts, turn_bias, rules)

-- `pass`
pub record Walk (d out : List ℕ) (b n : ℕ) (ps : List ℕ) (s t : Coder) (i : ℕ) : Type 0 where
  pub wrote : (after : ℕ → ℕ → ℕ → List ℕ) → Written d s.at out t.at (pass after b n ps s.delta s.bias s.h) (pass after b n (drop i ps) t.delta t.bias t.h)
  pub grows : t.delta ≤ s.delta + i
  pub counted : t.h ≤ t.at
  pub upto : i ≤ length ps
  pub ready : Ready (length d) (length ps) s
  pub kept : length out ≡ length d
  pub inside : t.at ≤ length d

pub walk_begin : (d : List ℕ) (b n : ℕ) (ps : List ℕ) (s : Coder) → Ready (length d) (length ps) s → Walk d d b n ps s s 0
walk_begin d b n ps s h =
    record {
      wrote = λ after. wrote_none d s.at _ h.inside;
      grows = omega arith;
      counted = h.counted;
      upto = omega arith;
      ready = h;
      kept = refl;
      inside = h.inside;
    }

module _ (d out : List ℕ) (b n : ℕ) (ps : List ℕ) (s t : Coder) (i : ℕ) (h : Walk d out b n ps s t i) where
  pub walk_ready : i < length ps → Ready (length out) 1 t
  walk_ready l =
      record {
        inside = omega (arith, h.kept, h.inside);
        counted = h.counted;
        short = omega (arith, h.kept, h.ready.short);
        few = omega (arith, h.ready.few, h.grows);
      }

  module _ (x : ℕ) (p : x ≡ get_or ps i 0) (l : i < length ps) (out₁ : List ℕ) where
    -- what the pass still has to write
    here : (after : ℕ → ℕ → ℕ → List ℕ) → Written d s.at out t.at (pass after b n ps s.delta s.bias s.h) (pass after b n (x ∷ drop (i + 1) ps) t.delta t.bias t.h)
    here after = rw (drop_one ps i l, ← p) at (h.wrote after)

    pub walk_next : (u : Coder) (r : Option Coder) → r ≡ Some u → Turned out out₁ b n x t r → Walk d out₁ b n ps s u (i + 1)
    walk_next u r a q =
        let k : Turning out out₁ b n x t u = rw a at q in
        let w = wrote_then d s.at out t.at _ _ (here (λ _ _ _. [])) out₁ u.at _ (k.wrote (λ _ _ _. []) (drop (i + 1) ps)) in
        record {
          wrote = λ after. wrote_then d s.at out t.at _ _ (here after) out₁ u.at _ (k.wrote after (drop (i + 1) ps));
          grows = omega (arith, h.grows, k.grows);
          counted = k.counted;
          upto = omega arith;
          ready = h.ready;
          kept = wrote_long d s.at out₁ u.at _ _ w;
          inside = w.room;
        }

    pub walk_full : (r : Option Coder) → r ≡ None → Turned out out₁ b n x t r → Stopped d out₁ b n ps s
    walk_full r a q =
        let k : Stopping out out₁ b n x t = rw a at q in
        record { long = λ after. full_then d s.at out t.at _ _ (here after) out₁ (k.long after (drop (i + 1) ps)) }

  pub walk_end : length ps ≤ i → Passing d out b n ps s t
  unfolding pass
  walk_end l =
      record {
        wrote = λ after. rw (drop_done ps i l) at (h.wrote after);
        grows = omega (arith, h.grows, h.upto);
        counted = h.counted;
      }

pub ruleset walking = (walk_begin, walk_ready, walk_next, walk_full, walk_end, rules)
