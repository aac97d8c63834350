-- A part cut at the first place of an octet.
--     cut_before, cut_behind      what stands before and behind it
--     holds_some                  a text holds an octet where something stands behind what stands before it
--     cut_holds, cut_without      whether the part holds such an octet
--     cut_pieces, cut_last        the pieces of the part: one, and those of what is behind it; or one alone
-- Assumes nothing.
use Prim.Native.Nat.{ℕ, suc, ◌+◌, ◌-◌, ◌<◌, ◌≤◌}
use mathlib.Core.Path.{◌≡◌, refl, sym, ◌∙◌}
use mathlib.Core.Bool.{true, false}
use mathlib.Core.List.{List, [], ◌∷◌}
use native.Mathlib.Omega.{arith}
use borrow.Author.Tests.{eq-eqb}
use lib.Dec.{eqb}
use lib.ListN.{length, take}
use Rattle.octets.specs.Finding.{holds}
use Rattle.octets.proofs.Finding.{By, none, one, other, by}
use Rattle.octets.proofs.Tests.{by_test}
use Rattle.pieces.specs.Pieces.{pieces, before, behind}
use Rattle.pieces.proofs.Pieces.{others, pieces_first, pieces_sides, behind_drop}
use Rattle.attributes.specs.Answers.{part, Within, FirstAt}
use Rattle.attributes.proofs.Parts.{part_length, part_front, part_back}

before_take : (d : ℕ) (t : List ℕ) → take (length (before d t)) t ≡ before d t
unfolding before
before_take d [] = refl
before_take d (x ∷ t) = by_test (eqb x d) (λ e. rw (before, e)) (λ e. rw (before, e, before_take d t))

before_nothing : (d : ℕ) (t : List ℕ) → length (before d (d ∷ t)) ≡ 0
unfolding before
before_nothing d t = rw (before, eq-eqb d d refl)

before_longer : (d x : ℕ) (t : List ℕ) → eqb x d ≡ false → length (before d (x ∷ t)) ≡ suc (length (before d t))
unfolding before
before_longer d x t e = rw (before, e)

others_none : (d : ℕ) (t : List ℕ) → length t ≤ length (before d t) → others d t ≡ []
unfolding before others
others_none d [] l = refl
others_none d (x ∷ t) l =
    by_test (eqb x d)
    (λ e. absurd (let k : suc (length t) ≤ 0 = rw (before, e) at l in omega arith))
    (λ e. rw (others, e) (let k : suc (length t) ≤ suc (length (before d t)) = rw (before, e) at l in others_none d t (omega arith)))

-- a text holds an octet where something stands behind what stands before it
pub holds_some : (d : ℕ) {t : List ℕ} → By d t → length (before d t) < length t → holds d t ≡ true
unfolding holds
holds_some d none l = absurd (omega arith)
holds_some d (one v) l = rw (holds, eq-eqb d d refl)
holds_some d (other {x} {s = t} e v) l = rw (holds, e) (holds_some d v (omega (arith, before_longer d x t e)))

holds_none : (d : ℕ) {t : List ℕ} → By d t → length t ≤ length (before d t) → holds d t ≡ false
unfolding holds
holds_none d none l = refl
holds_none d (one {s = t} v) l = absurd (omega (arith, before_nothing d t))
holds_none d (other {x} {s = t} e v) l = rw (holds, e) (holds_none d v (omega (arith, before_longer d x t e)))

module _ (s : List ℕ) (from to x r : ℕ) (w : Within s from to) (f : FirstAt s from to x r) where
  -- how much of the part the first piece is
  long : length (part s from to) ≡ to - from
  long = part_length s from to w.upto

  pub cut_before : part s from r ≡ before x (part s from to)
  cut_before =
      rw f.is (part_front s from to (length (before x (part s from to))) (omega (arith, f.is, f.upto)))
      ∙ before_take x (part s from to)

  pub cut_behind : r < to → part s (r + 1) to ≡ behind x (part s from to)
  cut_behind l =
      let e : r + 1 ≡ from + (length (before x (part s from to)) + 1) = omega (arith, f.is) in
      rw e (part_back s from to (length (before x (part s from to)) + 1) (omega arith) w.upto)
      ∙ sym (behind_drop x (part s from to))

  pub cut_holds : r < to → holds x (part s from to) ≡ true
  cut_holds l = holds_some x (by x (part s from to)) (omega (arith, f.is, long))

  pub cut_without : to ≤ r → holds x (part s from to) ≡ false
  cut_without l = holds_none x (by x (part s from to)) (omega (arith, f.is, long))

  pub cut_pieces : r < to → pieces x (part s from to) ≡ part s from r ∷ pieces x (part s (r + 1) to)
  cut_pieces l =
      pieces_sides x (part s from to) (omega (arith, f.is, long))
      ∙ rw (← cut_before, ← cut_behind l)

  pub cut_last : to ≤ r → pieces x (part s from to) ≡ part s from r ∷ []
  cut_last l =
      pieces_first x (part s from to)
      ∙ rw (← cut_before, others_none x (part s from to) (omega (arith, f.is, long)))
