-- Quoted strings: what `quoted` knows in its loop, and what its callers ask.
--     Quoting s at i               what is left behind the quoted string is the same from `at` and from i
--     quoting_begin .. quoting_end     the loop's steps
--     quote_suffix                 what is left is a part of the text that does not begin before the second octet
--     quoted_to                    an answer `To n`: what is left is the text from n on, and n lies behind `at`
--     quoted_unreadable            an answer Unreadable: nothing is left
-- Assumes nothing.
use Prim.Native.Nat.{ℕ, ◌+◌, ◌-◌, ◌<◌, ◌≤◌}
use mathlib.Core.Path.{◌≡◌, refl, sym, ◌∙◌}
use mathlib.Core.Bool.{Bool, true, false}
use mathlib.Core.List.{List, [], ◌∷◌}
use Rattle.std.specs.Prelude.{Some, None, Option}
use mathlib.Core.Logic.{⊎_elim}
use native.Mathlib.Omega.{arith}
use borrow.Author.Rules.{rules}
use lib.ListN.{length, drop}
use lib.Seq.{drop-drop}
use Rattle.octets.proofs.Lists.{lt_or_le, drop_one, drop_done}
use Rattle.tokens.specs.Tokens.{control, kind_of, after_quote}
use Rattle.tokens.specs.Answers.{reached, step_in}
use Rattle.tokens.specs.declared.OctetKind.{OctetKind}
use Rattle.tokens.specs.declared.OctetKind.TheVariants.{Closes, Escapes, Control, Plain}
use Rattle.tokens.specs.declared.StepIn.{StepIn}
use Rattle.tokens.specs.declared.StepIn.TheVariants.{On, Ends, Stops}
use Rattle.tokens.proofs.Places.{none_or_some, Suffix, whole, suffix_one, reached_at, reached_to, reached_none, Left}
use Rattle.tokens.proofs.Stepping.{Moved, moved}

pub record Quoting (s : List ℕ) (at i : ℕ) : Type 0 where
  pub same : after_quote false (drop at s) ≡ after_quote false (drop i s)

pub quoting_begin : (s : List ℕ) (at : ℕ) → Quoting s at at
quoting_begin s at = record { same = refl }

module _ (s : List ℕ) (at i : ℕ) (h : Quoting s at i) where
  pub quoting_end : length s ≤ i → None ≡ reached s (after_quote false (drop at s))
  unfolding after_quote reached
  quoting_end l = rw (h.same, drop_done s i l)

  module _ (l : i < length s) (g : StepIn) (e : g ≡ step_in 34 i (drop i s)) where
    told : (k : StepIn) → g ≡ k → Moved after_quote Some s i k
    unfolding after_quote
    told k q = rw (sym q ∙ e) (moved after_quote Some s i 34 l (rw (drop_one s i l, after_quote)) refl (λ x r. refl))

    pub quoting_on : (m : ℕ) → g ≡ On m → Quoting s at m
    quoting_on m q = record { same = h.same ∙ (told (On m) q).2 }

    pub quoting_nearer : (m : ℕ) → g ≡ On m → length s - m < length s - i
    quoting_nearer m q = omega (arith, told (On m) q)

    pub quoting_ends : (m : ℕ) → g ≡ Ends m → Some m ≡ reached s (after_quote false (drop at s))
    quoting_ends m q = rw (h.same, (told (Ends m) q).2) (sym (reached_at s m (told (Ends m) q).1))

    pub quoting_stops : g ≡ Stops → None ≡ reached s (after_quote false (drop at s))
    unfolding reached
    quoting_stops q = rw (h.same, told Stops q)

pub ruleset quoting = (quoting_begin, quoting_end, quoting_on, quoting_nearer, quoting_ends, quoting_stops, rules)

-- one octet of a quoted string: unreadable, the end, or what follows is read
data Reads (taken : Bool) (x : ℕ) (s : List ℕ) : Type 0 where
  stuck : after_quote taken (x ∷ s) ≡ None → Reads taken x s
  ended : after_quote taken (x ∷ s) ≡ Some s → Reads taken x s
  goes : (next : Bool) → after_quote taken (x ∷ s) ≡ after_quote next s → Reads taken x s

reads : (taken : Bool) (x : ℕ) (s : List ℕ) → Reads taken x s
unfolding after_quote
reads true x s = go (control x) refl
  where
    go : (b : Bool) → control x ≡ b → Reads true x s
    go true e = stuck (rw (after_quote, e))
    go false e = goes false (rw (after_quote, e))
reads false x s = go (kind_of 34 x) refl
  where
    go : (k : OctetKind) → kind_of 34 x ≡ k → Reads false x s
    go Closes e = ended (rw (after_quote, e))
    go Escapes e = goes true (rw (after_quote, e))
    go Control e = stuck (rw (after_quote, e))
    go Plain e = goes false (rw (after_quote, e))

pub quote_suffix : (taken : Bool) (s rest : List ℕ) → after_quote taken s ≡ Some rest → Suffix rest (drop 1 s)
unfolding after_quote
quote_suffix taken [] rest e = absurd (none_or_some (after_quote taken []) rest refl e)
quote_suffix taken (x ∷ s) rest e = go (λ next. quote_suffix next s rest) (reads taken x s)
  where
    go : ((next : Bool) → after_quote next s ≡ Some rest → Suffix rest (drop 1 s)) → Reads taken x s → Suffix rest s
    go more (stuck p) = absurd (none_or_some (after_quote taken (x ∷ s)) rest p e)
    go more (ended p) = let q : s ≡ rest = cc in rw q whole
    go more (goes next p) = suffix_one s (more next (sym p ∙ e))

-- what a caller of `quoted` learns from its answer r
module _ (s : List ℕ) (at : ℕ) (r : Option ℕ) (e : r ≡ reached s (after_quote false (drop at s))) where
  module _ (n : ℕ) (q : r ≡ Some n) where
    pub quoted_to : Left s (at + 1) n (after_quote false (drop at s))
    unfolding after_quote reached
    quoted_to = ⊎_elim here beyond (lt_or_le at (length s))
      where
        here : at < length s → Left s (at + 1) n (after_quote false (drop at s))
        here l =
            reached_to s (at + 1) n (after_quote false (drop at s)) (omega arith)
            (λ rest p. rw drop-drop at (quote_suffix false (drop at s) rest p)) (sym q ∙ e)

        beyond : length s ≤ at → Left s (at + 1) n (after_quote false (drop at s))
        beyond l = let z : ◌≡◌ {A = ℕ} 0 1 = cc (drop_done s at l) in absurd (omega arith)

  pub quoted_unreadable : r ≡ None → after_quote false (drop at s) ≡ None
  quoted_unreadable q = reached_none s (after_quote false (drop at s)) (sym q ∙ e)
