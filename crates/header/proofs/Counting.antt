-- Loops that count the octets of a line, or of the rest of a field.
--     Going f s at i            what f counts from the place `at` on ends where what it counts from i on does
--     raw_on, raw_last          one step of what is counted
--     begin                     where each loop begins
--     raw_line                  the rest of a field is that of its first line and what follows
--     raw_begin .. raw_end      the loop's steps for the rest of a field, from LF to LF
--     raw_short                 it counts no more than there is
--     raw_upto                  so that it ends no later than the text
-- Assumes nothing.
use Prim.Native.Nat.{ℕ, suc, ◌+◌, ◌<◌, ◌≤◌, zero-le, suc-le-suc}
use mathlib.Core.Path.{◌≡◌, refl, sym, ◌∙◌}
use mathlib.Core.Bool.{Bool, true, false}
use mathlib.Core.List.{List, [], ◌∷◌}
use native.Mathlib.Nat.{zero-add}
use native.Mathlib.Omega.{arith}
use borrow.Author.Rules.{rules}
use borrow.Author.Tests.{eqb-false}
use lib.ListN.{length, get_or, drop, length-drop}
use lib.Seq.{drop-drop}
use Rattle.octets.specs.Finding.{length_before}
use Rattle.octets.proofs.Lists.{drop_one, drop_done}
use Rattle.octets.proofs.Finding.{By, none, one, other, by, before_on}
use Rattle.octets.specs.Octets.{lf}
use Rattle.header.specs.Header.{closes, raw_length}
use Rattle.header.specs.Lines.{line_length}
use Rattle.header.proofs.Telling.{next_octet, closes_other}

pub record Going (f : List ℕ → ℕ) (s : List ℕ) (at i : ℕ) : Type 0 where
  pub same : at + f (drop at s) ≡ i + f (drop i s)

module _ (f : List ℕ → ℕ) (s : List ℕ) (at : ℕ) where
  pub begin : Going f s at at
  begin = record { same = refl }

  next : (i : ℕ) → Going f s at i → f (drop i s) ≡ suc (f (drop (i + 1) s)) → Going f s at (i + 1)
  next i h e = record { same = omega (arith, h.same) }

  stop : (i n : ℕ) → Going f s at i → f (drop i s) ≡ n → i + n ≡ at + f (drop at s)
  stop i n h e = omega (arith, h.same)

  done : (i : ℕ) → Going f s at i → f (drop i s) ≡ 0 → i ≡ at + f (drop at s)
  done i h e = omega (arith, h.same)

  upto : (f (drop at s) ≤ length (drop at s)) → at ≤ length s → at + f (drop at s) ≤ length s
  upto h l = omega (arith, length-drop at s)

-- one step of `raw_length`
module _ (x : ℕ) (s : List ℕ) where
  pub raw_on : closes x (get_or s 0 0) ≡ false → raw_length (x ∷ s) ≡ suc (raw_length s)
  unfolding raw_length
  raw_on e = rw (raw_length, e)

  pub raw_last : closes x (get_or s 0 0) ≡ true → raw_length (x ∷ s) ≡ 1
  unfolding raw_length
  raw_last e = rw (raw_length, e)

-- one step at a place
module _ (s : List ℕ) (i : ℕ) where
  raw_past : length s ≤ i → raw_length (drop i s) ≡ 0
  unfolding raw_length
  raw_past h = rw (drop_done s i h)

  module _ (h : i < length s) where
    raw_more : closes (get_or s i 0) (get_or s (i + 1) 0) ≡ false → raw_length (drop i s) ≡ suc (raw_length (drop (i + 1) s))
    raw_more e = rw (drop_one s i h) (raw_on (get_or s i 0) (drop (i + 1) s) (rw (next_octet s (i + 1)) e))

    raw_over : closes (get_or s i 0) (get_or s (i + 1) 0) ≡ true → raw_length (drop i s) ≡ 1
    raw_over e = rw (drop_one s i h) (raw_last (get_or s i 0) (drop (i + 1) s) (rw (next_octet s (i + 1)) e))

raw_line : {s : List ℕ} → By lf s → raw_length s ≡ line_length s + raw_length (drop (line_length s) s)
unfolding length_before raw_length
raw_line none = refl
raw_line (one {s} v) = sym (zero-add (raw_length (lf ∷ s)))
raw_line (other {x} {s} e v) =
    rw (raw_on x s (sym (closes_other x (get_or s 0 0) (eqb-false x lf e))), before_on lf x s e) (omega (arith, raw_line v))

-- to the next LF
raw_jump : (s : List ℕ) (at i e : ℕ) → Going raw_length s at i → e ≡ i + line_length (drop i s) → Going raw_length s at e
raw_jump s at i e h q =
    let n : raw_length (drop i s) ≡ line_length (drop i s) + raw_length (drop e s) =
    rw (q, ← drop-drop (line_length (drop i s)) i s) (raw_line (by lf (drop i s))) in
    record { same = omega (arith, h.same) }

pub raw_begin : (s : List ℕ) (at e : ℕ) → e ≡ at + line_length (drop at s) → Going raw_length s at e
raw_begin s at e q = raw_jump s at at e (begin raw_length s at) q

module _ (s : List ℕ) (at i : ℕ) (h : Going raw_length s at i) where
  pub raw_next : (b : Bool) (e : ℕ) → i < length s → b ≡ closes (get_or s i 0) (get_or s (i + 1) 0) → b ≡ false → e ≡ i + 1 + line_length (drop (i + 1) s) → Going raw_length s at e
  raw_next b e l t f q = raw_jump s at (i + 1) e (next raw_length s at i h (raw_more s i l (sym t ∙ f))) q

  pub raw_stop : (b : Bool) → i < length s → b ≡ closes (get_or s i 0) (get_or s (i + 1) 0) → b ≡ true → i + 1 ≡ at + raw_length (drop at s)
  raw_stop b l t e = stop raw_length s at i 1 h (raw_over s i l (sym t ∙ e))

  pub raw_end : length s ≤ i → i ≡ at + raw_length (drop at s)
  raw_end l = done raw_length s at i h (raw_past s i l)

pub ruleset closing = (raw_begin, raw_next, raw_stop, raw_end, rules)

pub raw_short : (s : List ℕ) → raw_length s ≤ length s
unfolding raw_length
raw_short [] = zero-le
raw_short (x ∷ s) = go (raw_short s) (closes x (get_or s 0 0))
  where
    go : raw_length s ≤ length s → (b : Bool) → elim b [ true ↦ 1 | false ↦ suc (raw_length s) ] ≤ suc (length s)
    go ih true = suc-le-suc zero-le
    go ih false = suc-le-suc ih

pub raw_upto : (s : List ℕ) (at : ℕ) → at ≤ length s → at + raw_length (drop at s) ≤ length s
raw_upto s at l = upto raw_length s at (raw_short (drop at s)) l
