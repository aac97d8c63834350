-- What the octets at one place are: the laws behind the functions that have no loop.
--     next_octet                  the octet at a place, as the definitions have it
--     ends_lf, ends_cr, ends_other    octets of a line ending
--     closes_lf, closes_other     the last octet of a field
--     over_past, over_here        the end of a block
--     follow_past, follow_here    what may follow the name of a type
-- Assumes nothing.
use Prim.Native.Nat.{ℕ, ◌+◌, ◌<◌, ◌≤◌}
use mathlib.Core.Path.{◌≡◌, ap, ◌∙◌}
use mathlib.Core.Bool.{Bool, true, false, not, ◌||◌}
use mathlib.Core.List.{List}
use native.Mathlib.Nat.{add-zero}
use borrow.Author.Rules.{rules}
use borrow.Author.Tests.{eq-eqb, ne_eqb}
use lib.Dec.{eqb}
use lib.ListN.{length, get_or, drop}
use lib.Seq.{get_or-drop}
use Rattle.octets.specs.Octets.{octet, cr, lf}
use Rattle.octets.proofs.Lists.{drop_one, drop_done}
use Rattle.runs.specs.Runs.{belongs}
use Rattle.runs.specs.declared.Class.TheVariants.{Blank}
use Rattle.header.specs.Header.{of_ending, over, closes, may_follow}

pub next_octet : (s : List ℕ) (at : ℕ) → get_or (drop at s) 0 0 ≡ get_or s at 0
next_octet s at = get_or-drop at s 0 0 ∙ ap (λ (i : ℕ). get_or s i 0) (add-zero at)

module _ (x y : ℕ) where
  pub ends_lf : x ≡ lf → true ≡ of_ending x y
  unfolding of_ending
  ends_lf e = rw (eq-eqb x lf e)

  pub ends_other : (x ≡ lf → ⊥) → (x ≡ cr → ⊥) → false ≡ of_ending x y
  unfolding of_ending
  ends_other n m = rw (ne_eqb x lf n, ne_eqb x cr m)

  pub ends_cr : (p : ℕ) → (x ≡ lf → ⊥) → x ≡ cr → p ≡ y → eqb p lf ≡ of_ending x y
  unfolding of_ending
  ends_cr p n e q = rw (ne_eqb x lf n, eq-eqb x cr e, q)

  pub closes_other : (x ≡ lf → ⊥) → false ≡ closes x y
  unfolding closes
  closes_other n = rw (ne_eqb x lf n)

  pub closes_lf : (p : ℕ) (b : Bool) → x ≡ lf → p ≡ y → b ≡ belongs Blank p → not b ≡ closes x y
  unfolding closes
  closes_lf p b e q t = rw (eq-eqb x lf e, t, q)

module _ (s : List ℕ) (at : ℕ) where
  pub over_past : length s ≤ at → true ≡ over (drop at s)
  unfolding over
  over_past h = rw (drop_done s at h)

  pub over_here : (b : Bool) → at < length s → b ≡ of_ending (get_or s at 0) (get_or s (at + 1) 0) → b ≡ over (drop at s)
  unfolding over
  over_here b h e = e ∙ rw (drop_one s at h, next_octet s (at + 1))

  pub follow_past : length s ≤ at → true ≡ may_follow (drop at s)
  unfolding may_follow
  follow_past h = rw (drop_done s at h)

  pub follow_here : (b : Bool) → at < length s → b ≡ belongs Blank (get_or s at 0) → ((b || eqb (get_or s at 0) (octet ";")) || eqb (get_or s at 0) (octet "(")) ≡ may_follow (drop at s)
  unfolding may_follow
  follow_here b h e = rw (drop_one s at h, e)

pub ruleset telling = (over_past, over_here, follow_past, follow_here, rules)
