-- What a reader hands out.
--     out_over .. out_field          what is handed out at a place, by what stands there
--     behind_over .. behind_field    where the reader goes on
--     Ahead s at k i n               what comes after k others from the place `at` on comes from i on after n others fewer
--     ahead_begin .. ahead_end       the steps of a loop over the fields
-- Assumes nothing.
use Prim.Native.Nat.{ℕ, zero, suc, ◌+◌, ◌-◌, ◌<◌, ◌≤◌}
use mathlib.Core.Path.{◌≡◌, sym, ap, ◌∙◌}
use mathlib.Core.List.{List}
use native.Mathlib.Omega.{arith}
use native.Mathlib.Nat.{sub-zero}
use borrow.Author.Rules.{rules}
use Rattle.header.specs.Answers.{step_at}
use Rattle.header.specs.declared.Step.{Step}
use Rattle.header.specs.declared.Step.TheVariants as step
use Rattle.reader.specs.Reading.{handed, handed_at, place_behind, handed_after, taken_at}
use Rattle.reader.specs.declared.Handed.{Handed}
use Rattle.reader.specs.declared.Taken.{Taken}
use Rattle.reader.specs.declared.Handed.TheVariants.{Over, Broken, Field}

module _ (s : List ℕ) (at : ℕ) (r : Step) (t : r ≡ step_at s at) where
  out : (q : Step) → r ≡ q → handed at q ≡ handed_at s at
  unfolding handed_at
  out q e = ap (handed at) (sym e ∙ t)

  pub out_over : r ≡ step.Over → Over ≡ handed_at s at
  unfolding handed
  out_over e = out step.Over e

  pub out_broken : r ≡ step.Broken → Broken ≡ handed_at s at
  unfolding handed
  out_broken e = out step.Broken e

  pub out_field : (n v e : ℕ) → r ≡ step.Field n v e → Field at n v e ≡ handed_at s at
  unfolding handed
  out_field n v e q = out (step.Field n v e) q

pub ruleset handing = (out_over, out_broken, out_field, rules)

module _ (h : Handed) (at : ℕ) where
  pub behind_over : h ≡ Over → at ≡ place_behind h at
  unfolding place_behind
  behind_over e = rw e

  pub behind_broken : h ≡ Broken → at ≡ place_behind h at
  unfolding place_behind
  behind_broken e = rw e

  pub behind_field : (m n v e : ℕ) → h ≡ Field m n v e → e ≡ place_behind h at
  unfolding place_behind
  behind_field m n v e q = rw q

-- where the reader stays, all that comes after is the same
pub stays : (k : ℕ) (s : List ℕ) (at : ℕ) (h : Handed) → h ≡ handed_at s at → at ≡ place_behind h at → h ≡ handed_after k s at
unfolding handed_after
stays zero s at h t p = t
stays (suc k) s at h t p = rw (handed_after, ← t, ← p) (stays k s at h t p)

pub record Ahead (s : List ℕ) (at k i n : ℕ) : Type 0 where
  pub same : handed_after k s at ≡ handed_after (k - n) s i

pub ahead_begin : (s : List ℕ) (at k : ℕ) → Ahead s at k at 0
ahead_begin s at k = record { same = rw sub-zero }

module _ (s : List ℕ) (at k i n : ℕ) (a : Ahead s at k i n) (r : Taken) (t : r ≡ taken_at s i) where
  handed_is : r.handed ≡ handed_at s i
  handed_is = ap (λ (x : Taken). x.handed) t

  pub ahead_stays : r.at ≡ i → r.handed ≡ handed_after k s at
  ahead_stays e =
      let p : i ≡ place_behind r.handed i = rw handed_is (sym e ∙ ap (λ (x : Taken). x.at) t) in
      stays (k - n) s i r.handed handed_is p ∙ sym a.same

  pub ahead_next : n < k → Ahead s at k r.at (n + 1)
  unfolding handed_after
  ahead_next l =
      let p : k - n ≡ suc (k - (n + 1)) = omega arith in
      record { same = a.same ∙ ap (λ (x : ℕ). handed_after x s i) p ∙ ap (λ (x : Taken). handed_after (k - (n + 1)) s x.at) (sym t) }

  pub ahead_end : k ≤ n → r.handed ≡ handed_after k s at
  unfolding handed_after
  ahead_end l =
      let p : k - n ≡ 0 = omega arith in
      handed_is ∙ sym (a.same ∙ ap (λ (x : ℕ). handed_after x s i) p)

pub ruleset reading_on = (ahead_begin, ahead_stays, ahead_next, ahead_end, rules)
