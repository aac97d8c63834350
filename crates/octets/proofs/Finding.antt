-- The first place of an octet, and pieces that are searched for it.
--     By                        a list, octet by octet: the one looked for or another
--     before_on .. before_none    how many octets stand before the first one
--     piece_without, piece_with     a piece that opens a list, without an element that passes a test, and with one
--     Skipping p s at i         no element between the places `at` and i passes
--     skip_begin .. skip_end, skipping    the steps of `skip`
--     length_before_is          the first octet, by the library's word
--     before_past               where nothing is left
-- Assumes nothing.
use Prim.Native.Nat.{ℕ, zero, suc, ◌+◌, ◌-◌, ◌<◌, ◌≤◌, zero-le, suc-le-suc}
use mathlib.Core.Path.{◌≡◌, refl, sym, ◌∙◌}
use mathlib.Core.Bool.{Bool, true, false, not, false≢true}
use mathlib.Core.List.{List, [], ◌∷◌}
use native.Mathlib.Nat.{zero-add}
use native.Mathlib.Omega.{arith}
use borrow.Author.Rules.{rules}
use borrow.Author.Tests.{eqb-true, eqb-false, eq-eqb}
use lib.Dec.{eqb}
use lib.ListN.{length, get_or, take, drop, length-drop}
use lib.Seq.{drop-drop}
use Rattle.std.specs.List.{list_any, position_or_len}
use Rattle.std.proofs.lemmas.List.Sums.{prefix_len-le-length}
use Rattle.octets.specs.Finding.{length_before, Skipped}
use Rattle.octets.proofs.Tests.{by_test, or_left}

pub data By (d : ℕ) : List ℕ → Type 0 where
  none : By d []
  one : {s : List ℕ} → By d s → By d (d ∷ s)
  other : {x : ℕ} {s : List ℕ} → eqb x d ≡ false → By d s → By d (x ∷ s)

pub by : (d : ℕ) (s : List ℕ) → By d s
by d [] = none
by d (x ∷ s) = go (by d s) (eqb x d) refl
  where
    go : By d s → (b : Bool) → eqb x d ≡ b → By d (x ∷ s)
    go v true e = rw (eqb-true x d e) (one v)
    go v false e = other e v

module _ (d : ℕ) where
  pub before_on : (x : ℕ) (s : List ℕ) → eqb x d ≡ false → length_before d (x ∷ s) ≡ suc (length_before d s)
  unfolding length_before
  before_on x s e = rw (length_before, e)

  pub before_here : (s : List ℕ) → length_before d (d ∷ s) ≡ 0
  unfolding length_before
  before_here s = rw (length_before, eq-eqb d d refl)

module _ {d : ℕ} where
  pub before_short : {s : List ℕ} → By d s → length_before d s ≤ length s
  unfolding length_before
  before_short none = zero-le
  before_short (one {s} v) = rw (before_here d s) zero-le
  before_short (other {x} {s} e v) = rw (before_on d x s e) (suc-le-suc (before_short v))

  pub before_none : {s : List ℕ} → By d s → get_or s 0 0 ≡ d → length_before d s ≡ 0
  unfolding length_before
  before_none none q = refl
  before_none (one {s} v) q = before_here d s
  before_none (other {x} {s} e v) q = absurd (eqb-false x d e q)

-- pieces that open a list, without and with an element that passes
module _ {A : Type 0} (p : A → Bool) where
  piece_without : (w : ℕ) (s : List A) → w ≤ length s → list_any p (take w s) ≡ false → position_or_len p s ≡ w + position_or_len p (drop w s)
  piece_without zero s h e = sym (zero-add (position_or_len p s))
  piece_without (suc w) [] h e = absurd (omega arith)
  piece_without (suc w) (x ∷ s) h e =
      let q : p x ≡ false = or_left (p x) _ e in
      rw q (omega (arith, piece_without w s (omega arith) (rw q at e)))

  piece_with : (w : ℕ) (s : List A) → list_any p (take w s) ≡ true → position_or_len p s < w
  piece_with zero s e = absurd (false≢true e)
  piece_with (suc w) [] e = absurd (false≢true e)
  piece_with (suc w) (x ∷ s) e =
      by_test (p x) (λ q. rw q (omega arith)) (λ q. rw q (omega (arith, piece_with w s (rw q at e))))

-- no element between the places `at` and i passes
pub record Skipping {A : Type 0} (p : A → Bool) (s : List A) (at i : ℕ) : Type 0 where
  pub same : at + position_or_len p (drop at s) ≡ i + position_or_len p (drop i s)
  pub upto : i ≤ length s

module _ {A : Type 0} (p : A → Bool) (s : List A) (at : ℕ) where
  pub skip_begin : at ≤ length s → Skipping p s at at
  skip_begin l = record { same = refl; upto = l }

  module _ (width i : ℕ) (h : Skipping p s at i) where
    skipped : position_or_len p (drop i s) < width → Skipped p s at width i
    skipped n = record { same = h.same; upto = h.upto; near = n }

    pub skip_end : length s - i < width → Skipped p s at width i
    skip_end w = skipped (omega (arith, prefix_len-le-length (λ x. not (p x)) (drop i s), length-drop i s))

    piece : i + width - i ≡ width
    piece = omega arith

    pub skip_stop : (b : Bool) → b ≡ true → b ≡ list_any p (take (i + width - i) (drop i s)) → Skipped p s at width i
    skip_stop b e t = skipped (piece_with p width (drop i s) (sym (rw piece at t) ∙ e))

    pub skip_next : (b : Bool) → b ≡ false → b ≡ list_any p (take (i + width - i) (drop i s)) → width ≤ length s - i → Skipping p s at (i + width)
    skip_next b e t w =
        let n : position_or_len p (drop i s) ≡ width + position_or_len p (drop (i + width) s) =
        rw (← drop-drop width i s) (piece_without p width (drop i s) (rw length-drop w) (sym (rw piece at t) ∙ e)) in
        record { same = omega (arith, h.same); upto = omega (arith, h.upto) }

pub ruleset skipping = (skip_begin, skip_next, skip_stop, skip_end, rules)

-- the first octet, by the library's word
pub length_before_is : (d : ℕ) (s : List ℕ) → length_before d s ≡ position_or_len (λ x. eqb x d) s
unfolding length_before
length_before_is d [] = refl
length_before_is d (x ∷ s) =
    by_test (eqb x d) (λ e. rw (length_before, e)) (λ e. rw (length_before, e) (omega (arith, length_before_is d s)))

-- nothing is left
pub before_past : (d : ℕ) (s : List ℕ) (from : ℕ) → length s ≤ from → from ≡ from + length_before d (drop from s)
before_past d s from l = omega (arith, before_short (by d (drop from s)), length-drop from s)
