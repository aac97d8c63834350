-- Rows of refusals: the first that holds decides, in any list (R31).
--     exactly                    the number is n exactly when the row of n holds and none before it (C3)
--     first_here, first_behind   the first row holds, or it does not
--     first_front, first_rest    rows in front of others: one of them holds, or none does
--     never_given                a refusal of which no row holds is not given
--     front_only                 one of which no row among the last holds is one of the first
--     none_here, none_rest, none_front, none_behind    what it says of each part of a list that no row of it holds
--     by_refusal                 a refusal, or none
--     refused_is, done_is        what is answered or left, by the refusal
--     answer_refused, answer_done    the refusal, by the answer
-- Rows as the code tests them, one after the other:
--     when_refuses .. unless_passes      the row's test is known
--     told_refuses .. denied_passes      a test of the code answers as the row's does
--     not_denied                         a test that was passed holds
--     front_refuses, front_passes        rows in front of others, which were answered as a whole
--     the ruleset                        rows
-- Assumes nothing.
use Prim.Native.Nat.{ℕ}
use mathlib.Core.Path.{◌≡◌, refl, sym, ap, ◌∙◌}
use mathlib.Core.Logic.{◌↔◌}
use mathlib.Core.Bool.{Bool, true, false, not, ◌&&◌, ◌||◌, false≢true}
use mathlib.Core.List.{List, [], ◌∷◌, ◌++◌}
use Rattle.std.specs.Prelude.{Option, Some, None, Result, Ok, Err}
use native.Mathlib.Omega.{arith}
use borrow.Author.Rules.{rules}
use borrow.Author.Tests.{eq-eqb}
use lib.Dec.{eqb}
use Rattle.refusals.specs.Refusals.{number_of}
use Rattle.refusals.specs.Rows.{Row, ◌when◌, ◌unless◌, first_of, answered_by, answer_of, number_in, Gives, nothing, here, behind, some_holds}
use Rattle.refusals.specs.declared.Refusal.{Refusal}

pub by_refusal : {P : Type 0} (o : Option Refusal) → ((r : Refusal) → o ≡ Some r → P) → (o ≡ None → P) → P
by_refusal (Some r) a b = a r refl
by_refusal None a b = b refl

-- the first row
module _ (r : Refusal) (b : Bool) (rest : List Row) where
  pub first_here : b ≡ true → first_of ((r when b) ∷ rest) ≡ Some r
  unfolding first_of
  first_here e = rw e

  pub first_behind : b ≡ false → first_of ((r when b) ∷ rest) ≡ first_of rest
  unfolding first_of
  first_behind e = rw e

pub exactly : (rows : List Row) (n : ℕ) → (number_in (first_of rows) ≡ n) ↔ Gives rows n
unfolding first_of answered_by
exactly [] n = (λ e. nothing e, λ g. from g)
  where
    from : Gives [] n → 0 ≡ n
    from (nothing e) = e
exactly ((r when true) ∷ rest) n = (λ e. here refl e, λ g. from g)
  where
    from : Gives ((r when true) ∷ rest) n → number_of r ≡ n
    from (here e q) = q
    from (behind e g) = absurd (false≢true (sym e))
exactly ((r when false) ∷ rest) n = (λ e. behind refl ((exactly rest n).0 e), λ g. from (exactly rest n).1 g)
  where
    from : (Gives rest n → number_in (first_of rest) ≡ n) → Gives ((r when false) ∷ rest) n → number_in (first_of rest) ≡ n
    from more (here e q) = absurd (false≢true e)
    from more (behind e g) = more g

-- rows in front of others
pub first_front : (rows rest : List Row) (r : Refusal) → first_of rows ≡ Some r → first_of (rows ++ rest) ≡ Some r
unfolding first_of
first_front [] rest r e = cc
first_front ((q when true) ∷ rows) rest r e = e
first_front ((q when false) ∷ rows) rest r e = first_front rows rest r e

pub first_rest : (rows rest : List Row) → first_of rows ≡ None → first_of (rows ++ rest) ≡ first_of rest
unfolding first_of
first_rest [] rest e = refl
first_rest ((q when true) ∷ rows) rest e = cc
first_rest ((q when false) ∷ rows) rest e = first_rest rows rest e

-- a refusal of which no row holds is not given
pub never_given : (rows : List Row) (r : Refusal) → some_holds (number_of r) rows ≡ false → first_of rows ≡ Some r → ⊥
unfolding first_of some_holds
never_given [] r m e = let z : ◌≡◌ {A = ℕ} 0 1 = cc in omega arith
never_given ((q when true) ∷ rows) r m e =
    let same : q ≡ r = cc in
    let z : true ≡ false = rw (same, eq-eqb (number_of r) (number_of r) refl) at m in
    false≢true (sym z)
never_given ((q when false) ∷ rows) r m e = never_given rows r (or_right (eqb (number_of q) (number_of r) && false) (some_holds (number_of r) rows) m) e
  where
    or_right : (a b : Bool) → (a || b) ≡ false → b ≡ false
    or_right true b n = absurd (false≢true (sym n))
    or_right false b n = n

-- a refusal of which no row among the last holds is one of the first
pub front_only : (rows rest : List Row) (r : Refusal) → some_holds (number_of r) rest ≡ false → first_of (rows ++ rest) ≡ Some r → first_of rows ≡ Some r
front_only rows rest r m e =
    by_refusal (first_of rows)
    (λ q f. let z : Some q ≡ Some r = sym (first_front rows rest q f) ∙ e in f ∙ z)
    (λ f. absurd (never_given rest r m (sym (first_rest rows rest f) ∙ e)))

-- no row holds
pub none_here : (r : Refusal) (b : Bool) (rest : List Row) → first_of ((r when b) ∷ rest) ≡ None → b ≡ false
unfolding first_of
none_here r true rest e = cc
none_here r false rest e = refl

pub none_rest : (r : Refusal) (b : Bool) (rest : List Row) → first_of ((r when b) ∷ rest) ≡ None → first_of rest ≡ None
unfolding first_of
none_rest r true rest e = cc
none_rest r false rest e = e

pub none_front : (rows rest : List Row) → first_of (rows ++ rest) ≡ None → first_of rows ≡ None
unfolding first_of
none_front [] rest e = refl
none_front ((q when true) ∷ rows) rest e = e
none_front ((q when false) ∷ rows) rest e = none_front rows rest e

pub none_behind : (rows rest : List Row) → first_of (rows ++ rest) ≡ None → first_of rest ≡ None
none_behind rows rest e = sym (first_rest rows rest (none_front rows rest e)) ∙ e

-- what is answered and left
module _ {A : Type 0} (f : Refusal → A) (d : A) where
  pub refused_is : (o : Option Refusal) (r : Refusal) → o ≡ Some r → answered_by o f d ≡ f r
  unfolding answered_by
  refused_is o r e = rw e

  pub done_is : (o : Option Refusal) → o ≡ None → answered_by o f d ≡ d
  unfolding answered_by
  done_is o e = rw e

pub answer_refused : (o : Option Refusal) (r : Refusal) → answer_of o ≡ Err r → o ≡ Some r
unfolding answered_by
answer_refused (Some q) r e = ap Some cc
answer_refused None r e = cc

pub answer_done : (o : Option Refusal) → answer_of o ≡ Ok tt → o ≡ None
unfolding answered_by
answer_done (Some q) e = cc
answer_done None e = refl

-- Rows as the code tests them; x is what the call answers or leaves.
module _ {A : Type 0} (f : Refusal → A) (d : A) (r : Refusal) (rest : List Row) (x : A) where
  -- the row's test is known
  module _ (b : Bool) where
    pub when_refuses : b ≡ true → x ≡ f r → x ≡ answered_by (first_of ((r when b) ∷ rest)) f d
    when_refuses t h = h ∙ sym (refused_is f d (first_of ((r when b) ∷ rest)) r (first_here r b rest t))

    pub when_passes : b ≡ false → x ≡ answered_by (first_of rest) f d → x ≡ answered_by (first_of ((r when b) ∷ rest)) f d
    when_passes t h = h ∙ ap (λ (o : Option Refusal). answered_by o f d) (sym (first_behind r b rest t))

  module _ (b : Bool) where
    pub unless_refuses : b ≡ false → x ≡ f r → x ≡ answered_by (first_of ((r unless b) ∷ rest)) f d
    unless_refuses t h = when_refuses (not b) (ap not t) h

    pub unless_passes : b ≡ true → x ≡ answered_by (first_of rest) f d → x ≡ answered_by (first_of ((r unless b) ∷ rest)) f d
    unless_passes t h = when_passes (not b) (ap not t) h

  -- a test c of the code answers as the row's does
  module _ (b c : Bool) (e : c ≡ b) where
    pub told_refuses : c ≡ true → x ≡ f r → x ≡ answered_by (first_of ((r when b) ∷ rest)) f d
    told_refuses t h = when_refuses b (sym e ∙ t) h

    pub told_passes : c ≡ false → x ≡ answered_by (first_of rest) f d → x ≡ answered_by (first_of ((r when b) ∷ rest)) f d
    told_passes t h = when_passes b (sym e ∙ t) h

    pub denied_refuses : c ≡ false → x ≡ f r → x ≡ answered_by (first_of ((r unless b) ∷ rest)) f d
    denied_refuses t h = unless_refuses b (sym e ∙ t) h

    pub denied_passes : c ≡ true → x ≡ answered_by (first_of rest) f d → x ≡ answered_by (first_of ((r unless b) ∷ rest)) f d
    denied_passes t h = unless_passes b (sym e ∙ t) h

-- what the test that was passed says
pub not_denied : (b c : Bool) → c ≡ b → c ≡ true → b ≡ true
not_denied b c e t = sym e ∙ t

-- rows that were answered as a whole, in front of others
module _ {A : Type 0} (f : Refusal → A) (d : A) (rows rest : List Row) (k : Result (Unit {0}) Refusal) (e : k ≡ answer_of (first_of rows)) (x : A) where
  pub front_refuses : (r : Refusal) → k ≡ Err r → x ≡ f r → x ≡ answered_by (first_of (rows ++ rest)) f d
  front_refuses r q h =
      h ∙ sym (refused_is f d (first_of (rows ++ rest)) r (first_front rows rest r (answer_refused (first_of rows) r (sym e ∙ q))))

  pub front_passes : k ≡ Ok tt → x ≡ answered_by (first_of rest) f d → x ≡ answered_by (first_of (rows ++ rest)) f d
  front_passes q h =
      h ∙ ap (λ (o : Option Refusal). answered_by o f d) (sym (first_rest rows rest (answer_done (first_of rows) (sym e ∙ q))))

pub no_row : {A : Type 0} (f : Refusal → A) (d x : A) → x ≡ d → x ≡ answered_by (first_of []) f d
unfolding first_of answered_by
no_row f d x e = e

pub ruleset rows = (
  when_refuses,
  when_passes,
  unless_refuses,
  unless_passes,
  told_refuses,
  told_passes,
  denied_refuses,
  denied_passes,
  front_refuses,
  front_passes,
  no_row,
  not_denied,
  rules,
)
