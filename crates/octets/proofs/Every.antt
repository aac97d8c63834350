-- Tests of every element.
--     every_append    a list behind another
--     every_weaker    a test that asks for less
--     every_at        the test at a place
--     Passed test s all i             what a loop knows that tests each octet and has no way out
--     passed_begin .. passed_end      the loop's steps
-- Assumes nothing.
use Prim.Native.Nat.{ℕ, suc, zero, ◌+◌, ◌<◌, ◌≤◌}
use mathlib.Core.Path.{◌≡◌, refl, sym, ◌∙◌}
use mathlib.Core.Bool.{Bool, true, ◌&&◌, and_assoc, and-true}
use mathlib.Core.List.{List, [], ◌∷◌, ◌++◌}
use native.Mathlib.Omega.{arith}
use lib.ListN.{length, get_or, drop}
use Rattle.octets.specs.Tests.{every}
use Rattle.octets.proofs.Lists.{drop_one, drop_done}
use Rattle.octets.proofs.Tests.{and_left, and_right}

pub every_append : {A : Type 0} (test : A → Bool) (s t : List A) → every test (s ++ t) ≡ (every test s && every test t)
unfolding every
every_append test [] t = refl
every_append test (x ∷ s) t = rw (every_append test s t) (sym (and_assoc (test x) (every test s) (every test t)))

pub every_weaker : {A : Type 0} (t u : A → Bool) → ((x : A) → t x ≡ true → u x ≡ true) → (s : List A) → every t s ≡ true → every u s ≡ true
unfolding every
every_weaker t u weaker [] e = refl
every_weaker t u weaker (x ∷ s) e =
    rw (weaker x (and_left (t x) (every t s) e)) (every_weaker t u weaker s (and_right (t x) (every t s) e))

pub every_at : (test : ℕ → Bool) (s : List ℕ) → every test s ≡ true → (i : ℕ) → i < length s → test (get_or s i 0) ≡ true
unfolding every
every_at test [] e i l = absurd (omega arith)
every_at test (x ∷ s) e zero l = and_left (test x) (every test s) e
every_at test (x ∷ s) e (suc i) l = every_at test s (and_right (test x) (every test s) e) i (omega arith)

-- the test of all comes to `all` of what was passed, and to what is left from i on
pub record Passed (test : ℕ → Bool) (s : List ℕ) (all : Bool) (i : ℕ) : Type 0 where
  pub so_far : every test s ≡ (all && every test (drop i s))

module _ (test : ℕ → Bool) (s : List ℕ) where
  pub passed_begin : Passed test s true 0
  passed_begin = record { so_far = refl }

  module _ (all : Bool) (i : ℕ) (h : Passed test s all i) where
    pub passed_next : (b : Bool) → i < length s → b ≡ test (get_or s i 0) → Passed test s (all && b) (i + 1)
    unfolding every
    passed_next b l e = record { so_far = h.so_far ∙ rw (drop_one s i l, e) (sym (and_assoc all _ _)) }

    pub passed_end : length s ≤ i → all ≡ every test s
    unfolding every
    passed_end l = sym (h.so_far ∙ rw (drop_done s i l) (and-true all))
