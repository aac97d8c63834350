-- Runs of octets of which a test holds.
--     run_in, run_out                 an octet more
--     run_short, run_all, run_stop    a run's length and octets, and what stops it
--     run_zero                        a text that opens with no such octet
--     run_upto                        the run that begins at a place ends no later than the text
--     Ran q s i e, ran                the run that begins at the place i of s and ends at the place e
--     Runs q s at i                   the run's end is the same counted from `at` and from i
--     run_begin .. run_end            the steps of a loop that looks for the end
-- Assumes nothing.
use Prim.Native.Nat.{ℕ, suc, ◌+◌, ◌<◌, ◌≤◌, ◌-◌, zero-le, suc-le-suc}
use mathlib.Core.Path.{◌≡◌, refl, sym, ◌∙◌}
use mathlib.Core.Bool.{Bool, true, false}
use mathlib.Core.List.{List, [], ◌∷◌, ◌++◌}
use native.Mathlib.Omega.{arith}
use borrow.Author.Rules.{rules}
use lib.ListN.{length, get_or, drop, take, length-drop, take-append-drop}
use lib.Seq.{drop-drop, length-take-le}
use Rattle.octets.specs.Tests.{every}
use Rattle.octets.proofs.Lists.{drop_one, drop_done}
use Rattle.octets.proofs.Tests.{by_test}
use Rattle.runs.specs.Runs.{run}

-- runs of octets of which q holds
module _ (q : ℕ → Bool) where
  module _ (x : ℕ) (u : List ℕ) where
    pub run_in : q x ≡ true → run q (x ∷ u) ≡ suc (run q u)
    unfolding run
    run_in e = rw (run, e)

    pub run_out : q x ≡ false → run q (x ∷ u) ≡ 0
    unfolding run
    run_out e = rw (run, e)

  pub run_short : (u : List ℕ) → run q u ≤ length u
  unfolding run
  run_short [] = zero-le
  run_short (x ∷ u) = by_test (q x) (λ e. rw (run, e) (suc-le-suc (run_short u))) (λ e. rw (run, e) zero-le)

  pub run_all : (u : List ℕ) → every q (take (run q u) u) ≡ true
  unfolding run every
  run_all [] = refl
  run_all (x ∷ u) = by_test (q x) (λ e. rw (run, e, e, run_all u)) (λ e. rw (run, e))

  pub run_stop : (u : List ℕ) → run q (drop (run q u) u) ≡ 0
  unfolding run
  run_stop [] = refl
  run_stop (x ∷ u) = by_test (q x) (λ e. rw (run, e, run_stop u)) (λ e. rw (run, e, run, e))

  pub run_zero : (x : ℕ) (u : List ℕ) → run q (x ∷ u) ≡ 0 → q x ≡ false
  unfolding run
  run_zero x u z = by_test (q x) (λ e. absurd (omega (arith, run_in x u e))) (λ e. e)

  pub run_upto : (s : List ℕ) (at : ℕ) → at ≤ length s → at + run q (drop at s) ≤ length s
  run_upto s at l = omega (arith, run_short (drop at s), length-drop at s)

pub record Ran (q : ℕ → Bool) (s : List ℕ) (i e : ℕ) : Type 0 where
  pub from : i ≤ e
  pub upto : e ≤ length s
  pub counts : length (take (e - i) (drop i s)) ≡ e - i
  pub all : every q (take (e - i) (drop i s)) ≡ true
  pub split : drop i s ≡ take (e - i) (drop i s) ++ drop e s
  pub stop : run q (drop e s) ≡ 0

pub ran : (q : ℕ → Bool) (s : List ℕ) (i e : ℕ) → i ≤ length s → e ≡ i + run q (drop i s) → Ran q s i e
ran q s i e h r =
    let n : e - i ≡ run q (drop i s) = omega arith in
    let b : drop e s ≡ drop (run q (drop i s)) (drop i s) = rw (r, drop-drop) in
    record {
      from = omega arith;
      upto = omega (arith, run_short q (drop i s), length-drop i s);
      counts = rw n (length-take-le (run q (drop i s)) (drop i s) (run_short q (drop i s)));
      all = rw n (run_all q (drop i s));
      split = rw (n, b) (sym (take-append-drop (run q (drop i s)) (drop i s)));
      stop = rw b (run_stop q (drop i s));
    }

pub record Runs (q : ℕ → Bool) (s : List ℕ) (at i : ℕ) : Type 0 where
  pub so_far : at + run q (drop at s) ≡ i + run q (drop i s)

module _ (q : ℕ → Bool) (s : List ℕ) (at : ℕ) where
  pub run_begin : Runs q s at at
  run_begin = record { so_far = refl }

  module _ (i : ℕ) (h : Runs q s at i) where
    pub run_end : length s ≤ i → i ≡ at + run q (drop at s)
    unfolding run
    run_end l =
        let z : run q (drop i s) ≡ 0 = rw (drop_done s i l) in
        omega (arith, h.so_far)

    module _ (b : Bool) (l : i < length s) (e : b ≡ q (get_or s i 0)) where
      pub run_next : b ≡ true → Runs q s at (i + 1)
      unfolding run
      run_next n =
          let t : q (get_or s i 0) ≡ true = sym e ∙ n in
          let z : run q (drop i s) ≡ suc (run q (drop (i + 1) s)) = rw (drop_one s i l, run, t) in
          record { so_far = omega (arith, h.so_far) }

      pub run_over : b ≡ false → i ≡ at + run q (drop at s)
      unfolding run
      run_over n =
          let t : q (get_or s i 0) ≡ false = sym e ∙ n in
          let z : run q (drop i s) ≡ 0 = rw (drop_one s i l, run, t) in
          omega (arith, h.so_far)

pub ruleset running = (run_begin, run_next, run_over, run_end, rules)
