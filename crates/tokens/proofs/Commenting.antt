-- Comments: what `past` does at a place of the text, and what the two readers of comments know.
--     past_opens, past_too_deep      at "(", with room for one more comment and with none
--     past_moved                     at any other octet inside a comment
--     past_end                       at the end of the text with a comment open
--     Inside s at room i             reading in a comment has come from `at` to i, and what is left behind is the same from either
--     inside_begin .. inside_end     the loop's steps
--     comment_nearer                 a comment that was passed leaves less to read
--     comment_full, comment_whole    a comment where no more may be open, and one around its content
-- Assumes nothing.
use Prim.Native.Nat.{ℕ, suc, zero, ◌+◌, ◌-◌, ◌<◌, ◌≤◌}
use mathlib.Core.Path.{◌≡◌, refl, sym, ◌∙◌}
use mathlib.Core.Bool.{false}
use mathlib.Core.List.{List}
use Rattle.std.specs.Prelude.{None, Option, Some}
use native.Mathlib.Omega.{arith}
use native.Mathlib.Numerals.{add-one}
use borrow.Author.Rules.{rules}
use borrow.Author.Tests.{ne_eqb, lt-ltb}
use lib.ListN.{length, get_or, drop}
use Rattle.octets.proofs.Lists.{drop_one, drop_done}
use Rattle.octets.specs.Octets.{blank}
use Rattle.tokens.specs.Tokens.{past}
use Rattle.tokens.specs.Answers.{step_in, opened, Opening, Passing, Passed}
use Rattle.tokens.proofs.Stepping.{Moved, moved}
use Rattle.tokens.specs.declared.StepIn.{StepIn}
use Rattle.tokens.specs.declared.StepIn.TheVariants.{On, Ends, Stops}

past_end : (s : List ℕ) (i n : ℕ) → length s ≤ i → past (suc n) false (drop i s) ≡ None
unfolding past
past_end s i n h = rw drop_done

module _ (s : List ℕ) (i : ℕ) (h : i < length s) where
  past_opens : (n : ℕ) → get_or s i 0 ≡ 40 → n < 16 → past n false (drop i s) ≡ past (suc n) false (drop (i + 1) s)
  unfolding past blank
  past_opens zero q l = rw (drop_one s i h, past, q, q)
  past_opens (suc n) q l = rw (drop_one s i h, past, q, lt-ltb (suc n) 16 l)

  past_too_deep : get_or s i 0 ≡ 40 → past 16 false (drop i s) ≡ None
  unfolding past
  past_too_deep q = rw (drop_one s i h, past, q)

  -- the octet there is not "("
  module _ (n : ℕ) (o : get_or s i 0 ≡ 40 → ⊥) where
    past_moved : Moved (past (suc n)) (past n false) s i (step_in 41 i (drop i s))
    unfolding past
    past_moved =
        moved (past (suc n)) (past n false) s i 41 h (rw (drop_one s i h, past, ne_eqb (get_or s i 0) 40 o)) refl (λ x r. refl)

one_more : (room : ℕ) → room < 16 → opened room ≡ suc (opened (room + 1))
one_more room h = let e : 16 - room ≡ (16 - (room + 1)) + 1 = omega arith in e ∙ add-one (16 - (room + 1))

pub record Inside (s : List ℕ) (at room i : ℕ) : Type 0 where
  pub from : at ≤ i
  pub same : past (suc (opened (room + 1))) false (drop at s) ≡ past (suc (opened (room + 1))) false (drop i s)

pub inside_begin : (s : List ℕ) (at room : ℕ) → Inside s at room at
inside_begin s at room = record { from = omega arith; same = refl }

module _ (s : List ℕ) (at room i : ℕ) (h : Inside s at room i) where
  pub inside_end : length s ≤ i → past (suc (opened (room + 1))) false (drop at s) ≡ None
  inside_end l = h.same ∙ past_end s i (opened (room + 1)) l

  module _ (l : i < length s) (o : get_or s i 0 ≡ 40 → ⊥) (g : StepIn) (e : g ≡ step_in 41 i (drop i s)) where
    told : (k : StepIn) → g ≡ k → Moved (past (suc (opened (room + 1)))) (past (opened (room + 1)) false) s i k
    told k q = rw (sym q ∙ e) (past_moved s i l (opened (room + 1)) o)

    pub inside_on : (m : ℕ) → g ≡ On m → Inside s at room m
    inside_on m q = record { from = omega (arith, told (On m) q); same = h.same ∙ (told (On m) q).2 }

    pub inside_nearer : (m : ℕ) → g ≡ On m → length s - m < length s - i
    inside_nearer m q = omega (arith, told (On m) q)

    pub inside_ends : (m : ℕ) → g ≡ Ends m → Passing s at (suc (opened (room + 1))) (opened (room + 1)) m
    inside_ends m q =
        record { beyond = omega (arith, told (Ends m) q); upto = (told (Ends m) q).1; same = h.same ∙ (told (Ends m) q).2 }

    pub inside_stops : g ≡ Stops → past (suc (opened (room + 1))) false (drop at s) ≡ None
    inside_stops q = h.same ∙ told Stops q

  -- a comment inside, which the reader of comments has passed or found unreadable
  module _ (r : Option ℕ) (fits : room < 16) (p : Passed s i (opened room) (opened room) r) where
    read : (k : Option ℕ) → r ≡ k → Passed s i (suc (opened (room + 1))) (suc (opened (room + 1))) k
    read k q = rw (← one_more room fits, ← q) p

    pub inside_comment : (m : ℕ) → r ≡ Some m → Inside s at room m
    inside_comment m q = record { from = omega (arith, read (Some m) q); same = h.same ∙ (read (Some m) q).same }

    pub inside_unread : r ≡ None → past (suc (opened (room + 1))) false (drop at s) ≡ None
    inside_unread q = h.same ∙ read None q

pub comment_nearer : (s : List ℕ) (i before after m : ℕ) (r : Option ℕ) → Passed s i before after r → r ≡ Some m → length s - m < length s - i
comment_nearer s i before after m r p q = let t : Passing s i before after m = rw q at p in omega arith

module _ (s : List ℕ) (at room : ℕ) (p : Opening s at room) where
  pub comment_full : room ≡ 0 → past (opened room) false (drop at s) ≡ None
  comment_full e = rw e (past_too_deep s at p.0 p.1)

  pub comment_whole :
      (r : Option ℕ) → (room ≡ 0 → ⊥) → Passed s (at + 1) (suc (opened ((room - 1) + 1))) (opened ((room - 1) + 1)) r
      → Passed s at (opened room) (opened room) r
  comment_whole r more c = go r (rw same_room at c)
    where
      same_room : (room - 1) + 1 ≡ room
      same_room = omega arith

      begun : past (opened room) false (drop at s) ≡ past (suc (opened room)) false (drop (at + 1) s)
      begun = past_opens s at p.0 (opened room) p.1 (omega arith)

      go : (k : Option ℕ) → Passed s (at + 1) (suc (opened room)) (opened room) k → Passed s at (opened room) (opened room) k
      go (Some n) t = record { beyond = omega arith; upto = t.upto; same = begun ∙ t.same }
      go None t = begun ∙ t

pub ruleset commenting =
    (inside_begin, inside_end, inside_on, inside_nearer, inside_ends, inside_stops, inside_comment, inside_unread, comment_nearer, comment_full, comment_whole, rules)
