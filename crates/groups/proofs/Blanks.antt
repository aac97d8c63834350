-- Blanks, and the text without them from a place on.
--     NextPlace s at r    r is the place of the next character of s from the place `at` on that is no blank, or there are only blanks up to it
--     next_place          so it is where the run of blanks ends
--     the ruleset         lettered, for `next_letter`
-- Assumes nothing.
use Prim.Native.Nat.{ℕ, ◌+◌, ◌<◌, ◌≤◌}
use mathlib.Core.Path.{◌≡◌, refl, ◌∙◌}
use mathlib.Core.Bool.{Bool, false}
use mathlib.Core.List.{List, [], ◌∷◌}
use native.Mathlib.Omega.{arith}
use borrow.Author.Rules.{rules}
use lib.ListN.{length, get_or, drop}
use lib.Seq.{drop-drop}
use Rattle.octets.specs.Octets.{blank, without_blanks}
use Rattle.octets.specs.Tests.{without}
use Rattle.octets.proofs.Lists.{drop_one, drop_done}
use Rattle.octets.proofs.Tests.{by_test}
use Rattle.octets.proofs.Without.{without_none, without_passing, without_other}
use Rattle.runs.specs.Runs.{belongs, run, run_length}
use Rattle.runs.specs.declared.Class.TheVariants.{Blank}
use Rattle.runs.proofs.Running.{run_in, run_out, run_upto, run_stop, run_zero}
use Rattle.groups.specs.Steps.{NextLetter}
use Rattle.std.specs.Prelude.{Some, None}

-- a run goes where it is of what goes
without_run : (test : ℕ → Bool) (s : List ℕ) → without test s ≡ without test (drop (run test s) s)
unfolding run without
without_run test [] = refl
without_run test (x ∷ s) =
    by_test (test x)
    (λ e. rw (run_in test x s e) (without_passing test x s e ∙ without_run test s))
    (λ e. rw (run_out test x s e))

pub record NextPlace (s : List ℕ) (at r : ℕ) : Type 0 where
  pub same : without_blanks (drop at s) ≡ without_blanks (drop r s)
  pub behind : at ≤ r
  pub upto : at ≤ length s → r ≤ length s
  pub stops : r < length s → blank (get_or s r 0) ≡ false

pub next_place : (s : List ℕ) (at r : ℕ) → r ≡ at + run_length Blank (drop at s) → NextPlace s at r
unfolding belongs
next_place s at r e =
    let b : drop r s ≡ drop (run blank (drop at s)) (drop at s) = rw (e, drop-drop) in
    let z : run blank (drop r s) ≡ 0 = rw b (run_stop blank (drop at s)) in
    record {
      same = rw b (without_run blank (drop at s));
      behind = omega arith;
      upto = λ l. rw e (run_upto blank s at l);
      stops = λ l. run_zero blank (get_or s r 0) (drop (r + 1) s) (rw (drop_one s r l) at z);
    }

-- `next_letter`
module _ (s : List ℕ) (at i : ℕ) (r : i ≡ at + run_length Blank (drop at s)) where
  h : NextPlace s at i
  h = next_place s at i r

  pub stays : i < length s → NextLetter s at (Some (get_or s i 0, i + 1))
  unfolding NextLetter
  stays l = (h.same ∙ rw (drop_one s i l) (without_other blank _ _ (h.stops l)), omega (arith, h.behind), omega arith)

  pub at_end : length s ≤ i → NextLetter s at None
  unfolding NextLetter
  at_end l = h.same ∙ rw (drop_done s i l) (without_none blank)

pub ruleset lettered = (stays, at_end, rules)
