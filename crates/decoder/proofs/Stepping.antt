-- One octet of the numbers.
--     run_other               what is no digit: the text stands for nothing, whatever follows
--     run_large, run_over     the same of a number that is too large
--     one_other .. one_last   the ways of `read_one`, and its sums
--     the ruleset             stepping, for `read_one`
-- Assumes nothing.
use Prim.Native.Nat.{ℕ, ◌+◌, ◌-◌, ◌*◌, ◌<◌, ◌≤◌}
use mathlib.Core.Path.{◌≡◌, refl, sym, ◌∙◌}
use mathlib.Core.List.{List, [], ◌∷◌}
use Rattle.std.specs.Prelude.{Option, Some, None}
use mathlib.Core.Logic.{⊎_elim}
use native.Mathlib.Nat.{mul-le-mul_left, mul-le-mul_right}
use native.Mathlib.Omega.{arith}
use borrow.Author.Rules.{rules}
use borrow.Author.Tests.{ne_eqb}
use mir.Syntax.{w64}
use mir.Val.{Fits}
use lib.ListN.{length, take}
use lib.Seq.{length-take-le}
use Rattle.octets.proofs.Lists.{lt_or_le}
use Rattle.punycode.specs.Punycode.{value, threshold, landed, run}
use Rattle.punycode.specs.Steps.{Threshold}
use Rattle.punycode.proofs.Integers.{value_below, run_more, run_last}
use Rattle.decoder.specs.Steps.{run_from, Steps, Lands, Landed, Going, Gone, Stepped}
use Rattle.decoder.specs.declared.Decoder.{Decoder}
use Rattle.decoder.proofs.Landing.{landed_over}

run_other : (c : ℕ) (s : List ℕ) (n old bias : ℕ) (out : List ℕ) (i w k : ℕ) → value c ≡ None → run (c ∷ s) n old bias out i w k ≡ None
unfolding run
run_other c s n old bias out i w k e = rw (run, e)

module _ (n old bias : ℕ) (out : List ℕ) where
  -- what is claimed of the rest of a text, in the middle of a number that is too large
  abbrev Over : List ℕ → Type 0
  Over s = (i w k : ℕ) → 0x110000 * (length out + 1) ≤ i → 36 < k → run s n old bias out i w k ≡ None

  -- a digit that makes it too large
  run_large : (s : List ℕ) → Over s → (c d i w k : ℕ) → value c ≡ Some d → 0x110000 * (length out + 1) ≤ i + d * w → 36 ≤ k
      → run (c ∷ s) n old bias out i w k ≡ None
  run_large s later c d i w k v h l =
      ⊎_elim
      (λ (t : d < threshold k bias). run_last c d s n old bias out i w k v t ∙ landed_over s n old out (i + d * w) h)
      (λ (t : threshold k bias ≤ d). run_more c d s n old bias out i w k v t ∙ later (i + d * w) _ (k + 36) h (omega arith))
      (lt_or_le d (threshold k bias))

  run_over : (s : List ℕ) → Over s
  unfolding run
  run_over [] i w k h l = rw (ne_eqb k 36 (omega arith))
  run_over (c ∷ s) i w k h l = go (run_over s) (value c) refl
    where
      go : Over s → (o : Option ℕ) → value c ≡ o → run (c ∷ s) n old bias out i w k ≡ None
      go later None e = run_other c s n old bias out i w k e
      go later (Some d) e = run_large s later c d i w k e (omega arith) (omega arith)

-- `read_one`
value_none : (o : Option ℕ) → None ≡ o → o ≡ None
value_none None e = refl
value_none (Some v) e = let z : ◌≡◌ {A = ℕ} 0 1 = cc in absurd (omega arith)

value_some : (o : Option ℕ) (v : ℕ) → Some v ≡ o → o ≡ Some v
value_some None v e = let z : ◌≡◌ {A = ℕ} 0 1 = cc in absurd (omega arith)
value_some (Some u) v e = cc

module _ (d : List ℕ) (c : ℕ) (s : Decoder) (h : Steps (length d) s) (r : Option ℕ) where
  long : length (take s.len d) ≡ s.len
  long = length-take-le s.len d (omega (arith, h.more))

  pub one_other : r ≡ None → r ≡ value c → Gone d d c s
  one_other a e = record { same = refl; goes = λ rest. run_other c rest _ _ _ _ _ _ _ (value_none (value c) (sym a ∙ e)) }

  module _ (v : ℕ) (a : r ≡ Some v) (e : r ≡ value c) where
    is : value c ≡ Some v
    is = value_some (value c) v (sym a ∙ e)

    -- the digit is at most 35, and so is the weight, for each that the sum has
    product : v * s.w ≤ 35 * (35 * s.i + 1)
    product =
        let p : v * s.w ≤ 35 * s.w = mul-le-mul_right s.w (omega (arith, value_below c v is)) in
        omega (arith, h.fine.weight)

    pub one_product : Fits w64 (v * s.w)
    one_product = omega (arith, product, h.fine.sum, h.more, h.short)

    pub one_sum : Fits w64 (s.i + v * s.w)
    one_sum = omega (arith, product, h.fine.sum, h.more, h.short)

    pub one_most : Fits w64 (0x110000 * (s.len + 1))
    one_most = omega (arith, h.more, h.short)

    pub one_over : 0x110000 * (s.len + 1) ≤ s.i + v * s.w → Gone d d c s
    one_over l =
        record {
          same = refl;
          goes = λ rest. run_large _ _ _ _ rest (run_over s.n s.old s.bias (take s.len d) rest) c v s.i s.w s.k is (rw long l) h.fine.begun;
        }

    module _ (t : ℕ) (q : Threshold s.k s.bias t) where
      heavier : s.w * (36 - t) ≤ s.w * 35
      heavier = mul-le-mul_left s.w (omega (arith, q.low))

      -- a digit that is not the last is at least 1, so the sum grows with the weight
      grown : t ≤ v → s.w * (36 - t) ≤ 35 * (s.i + v * s.w)
      grown l =
          let u : 1 * s.w ≤ v * s.w = mul-le-mul_right s.w (omega (arith, q.low)) in
          omega (arith, heavier)

      pub one_weight : t ≤ v → Fits w64 (s.w * (36 - t))
      one_weight l = omega (arith, heavier, h.fine.weight, h.fine.sum, h.more, h.short)

      pub one_turn : Fits w64 (s.k + 36)
      one_turn = omega (arith, h.turns)

      pub one_more : t ≤ v → s.i + v * s.w < 0x110000 * (s.len + 1)
          → Going d d c s (record { n = s.n; old = s.old; bias = s.bias; i = s.i + v * s.w; w = s.w * (36 - t); k = s.k + 36; len = s.len })
      one_more l m =
          record {
            same = refl;
            goes = λ rest. run_more c v rest s.n s.old s.bias (take s.len d) s.i s.w s.k is (rw (← q.same) l) ∙ rw (← q.same);
            fine = record {
              inside = omega (arith, h.more);
              point = h.fine.point;
              sum = m;
              weight = omega (arith, grown l);
              older = omega (arith, h.fine.older);
              begun = omega (arith, h.fine.begun);
            };
            slow = omega arith;
            turns = omega arith;
          }

      pub one_lands : s.i + v * s.w < 0x110000 * (s.len + 1) → Lands (length d) (s.i + v * s.w) s
      one_lands m = record { short = h.short; inside = h.more; point = h.fine.point; most = m; older = omega (arith, h.fine.older) }

      ends : v < t → (rest : List ℕ) → run_from s d (c ∷ rest) ≡ landed (run rest) s.n s.old (take s.len d) (s.i + v * s.w)
      ends l rest = run_last c v rest s.n s.old s.bias (take s.len d) s.i s.w s.k is (rw (← q.same) l)

      pub one_last : v < t → (x : Option Decoder) (f : List ℕ) → Landed d f (s.i + v * s.w) s x → Stepped d f c s x
      one_last l (Some u) f k =
          record {
            same = k.same;
            goes = λ rest. ends l rest ∙ k.goes rest;
            fine = k.fine;
            slow = k.slow;
            turns = omega (arith, k.turns);
          }
      one_last l None f k =
          record { same = k.same; goes = λ rest. ends l rest ∙ k.goes rest }

pub ruleset stepping = (one_other, one_product, one_sum, one_most, one_over, one_weight, one_turn, one_more, one_lands, one_last, rules)
