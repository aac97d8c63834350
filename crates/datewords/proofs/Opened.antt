-- What an octet opens, and where the token ends.
--     opens-..     a test of `opened_by`, and what the definition says
--     ends-..      a branch of `token_end`, and where the token ends by the definition
-- Assumes nothing.
use Prim.Native.Nat.{ℕ, ◌+◌}
use mathlib.Core.Path.{◌≡◌, refl, sym, ◌∙◌}
use mathlib.Core.Bool.{Bool, true, false}
use mathlib.Core.List.{List}
use native.Mathlib.Nat.{add-zero}
use borrow.Author.Rules.{rules}
use borrow.Author.Tests.{eq-eqb, ne_eqb}
use lib.ListN.{get_or, drop}
use Rattle.runs.specs.Runs.{belongs, run_length}
use Rattle.runs.specs.declared.Class.TheVariants.{Digit, Letter}
use Rattle.datewords.specs.Words.{opening_of, further}
use Rattle.datewords.specs.declared.token.Opening.{Opening}
use Rattle.datewords.specs.declared.token.Opening.TheVariants.{Number, Word, Plus, Minus, Mark}

module _ (x : ℕ) (d : Bool) (ed : d ≡ belongs Digit x) where
  pub opens_number : d ≡ true → Number ≡ opening_of x
  unfolding opening_of
  opens_number q = rw (opening_of, sym ed ∙ q)

  module _ (qd : d ≡ false) (l : Bool) (el : l ≡ belongs Letter x) where
    pub opens_word : l ≡ true → Word ≡ opening_of x
    unfolding opening_of
    opens_word q = rw (opening_of, sym ed ∙ qd, sym el ∙ q)

    module _ (ql : l ≡ false) where
      pub opens_plus : x ≡ 43 → Plus ≡ opening_of x
      unfolding opening_of
      opens_plus q = rw (opening_of, sym ed ∙ qd, sym el ∙ ql, eq-eqb x 43 q)

      module _ (np : x ≡ 43 → ⊥) where
        pub opens_minus : x ≡ 45 → Minus ≡ opening_of x
        unfolding opening_of
        opens_minus q = rw (opening_of, sym ed ∙ qd, sym el ∙ ql, ne_eqb x 43 np, eq-eqb x 45 q)

        pub opens_mark : (x ≡ 45 → ⊥) → Mark ≡ opening_of x
        unfolding opening_of
        opens_mark q = rw (opening_of, sym ed ∙ qd, sym el ∙ ql, ne_eqb x 43 np, ne_eqb x 45 q)

pub ruleset opening = (opens_number, opens_word, opens_plus, opens_minus, opens_mark, rules)

-- the end of the token that begins at the place `at`
abbrev pub end_of : List ℕ → ℕ → ℕ
end_of s at = (at + 1) + further (opening_of (get_or s at 0)) (drop (at + 1) s)

module _ (s : List ℕ) (at r : ℕ) (g : Opening) (e : g ≡ opening_of (get_or s at 0)) where
  -- a token of the kind k, whose end lies n behind its first octet
  ends : (k : Opening) (n : ℕ) → further k (drop (at + 1) s) ≡ n → g ≡ k → r ≡ (at + 1) + n → r ≡ end_of s at
  ends k n p q h = rw (← e, q, p) h

  pub ends_number : g ≡ Number → r ≡ (at + 1) + run_length Digit (drop (at + 1) s) → r ≡ end_of s at
  unfolding further
  ends_number = ends Number _ refl

  pub ends_word : g ≡ Word → r ≡ (at + 1) + run_length Letter (drop (at + 1) s) → r ≡ end_of s at
  unfolding further
  ends_word = ends Word _ refl

  pub ends_plus : g ≡ Plus → r ≡ (at + 1) + run_length Digit (drop (at + 1) s) → r ≡ end_of s at
  unfolding further
  ends_plus = ends Plus _ refl

  pub ends_minus : g ≡ Minus → r ≡ (at + 1) + run_length Digit (drop (at + 1) s) → r ≡ end_of s at
  unfolding further
  ends_minus = ends Minus _ refl

pub ends_mark : (s : List ℕ) (at : ℕ) (g : Opening) → g ≡ opening_of (get_or s at 0) → g ≡ Mark → at + 1 ≡ end_of s at
unfolding further
ends_mark s at g e q = ends s at (at + 1) g e Mark 0 refl q (sym (add-zero (at + 1)))

pub ruleset ending = (ends_number, ends_word, ends_plus, ends_minus, ends_mark, rules)
