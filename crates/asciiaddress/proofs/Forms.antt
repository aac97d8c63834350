-- Whether a text is its own canonical form: the answers of the code.
--     small_every                          a text is its own lower case where each octet is
--     small_steady .. small_broken         whether a local part is in lower case
--     at_within, left_part, right_part     the two sides, by the place of the "@"
--     tail_is                              what goes up to the end
--     own_ascii .. own_right               whether a text is its own form
--     canonical_whole, canonical_part      the answer on a plain address, and on another text
--     was_whole, was_part                  the same by the old rule (T16)
-- Assumes nothing.
use Prim.Native.Nat.{ℕ, ◌+◌, ◌-◌, ◌<◌, ◌≤◌}
use mathlib.Core.Path.{◌≡◌, refl, sym, ap, ◌∙◌}
use mathlib.Core.Bool.{Bool, true, false, ◌&&◌, and_assoc}
use mathlib.Core.List.{List, [], ◌∷◌, ◌++◌}
use native.Mathlib.Omega.{arith}
use native.Mathlib.Nat.{zero-add}
use borrow.Author.Rules.{rules}
use borrow.Author.Tests.{lt-ltb, ltb-true}
use lib.Dec.{eqb, ltb}
use lib.ListN.{length, take, drop, length-drop}
use lib.Seq.{take_all}
use Rattle.octets.specs.Octets.{same_octets, lower, lowered}
use Rattle.octets.specs.Finding.{length_before}
use Rattle.octets.specs.Tests.{every}
use Rattle.octets.proofs.Letters.{lower_below, lower_above}
use Rattle.octets.proofs.Tests.{by_test, and_left, and_right}
use Rattle.octets.proofs.Comparing.{same_refl}
use Rattle.octets.proofs.Finding.{by, before_short}
use Rattle.utf8.specs.Utf8.{well_formed}
use Rattle.utf8.specs.Lowering.{lower_text}
use Rattle.utf8.specs.Steps.{all_ascii, octetwise}
use Rattle.utf8.proofs.Octetwise.{steady_small}
use Rattle.utf8.proofs.Alike.{alike_length}
use Rattle.utf8.proofs.Lowering.{alike_text, text_formed, text_broken}
use Rattle.pieces.specs.Pieces.{before, from}
use Rattle.asciiaddress.specs.Ascii.{ascii_plain, ascii_form, was_canonical}
use Rattle.asciiaddress.specs.Answers.{small_ascii, lower_sides, ascii_canonical}
use Rattle.pieces.proofs.Pieces.{before_from, place_before, place_from}
use Rattle.asciiaddress.proofs.Lowered.{sides_ascii}

-- a text is its own lower case where each octet is
pub small_every : (s : List ℕ) → every (λ x. eqb (lower x) x) s ≡ same_octets (lowered s) s
unfolding every same_octets lowered
small_every [] = refl
small_every (x ∷ s) = rw (small_every s)

-- such an octet is ASCII, and its own lower case
ascii_octet : (x : ℕ) → small_ascii x ≡ true → (x < 128) × (lower x ≡ x)
unfolding small_ascii
ascii_octet x e =
    by_test (ltb x 65)
    (λ t. let l : x < 65 = ltb-true x 65 t in (omega arith, sym (lower_below x l)))
    (λ t.
    let m : (ltb 90 x && ltb x 128) ≡ true = rw t at e in
    (ltb-true x 128 (and_right (ltb 90 x) (ltb x 128) m), sym (lower_above x (ltb-true 90 x (and_left (ltb 90 x) (ltb x 128) m)))))

ascii_own : (s : List ℕ) → every small_ascii s ≡ true → (all_ascii s ≡ true) × (lowered s ≡ s)
unfolding every lowered
ascii_own [] e = (refl, refl)
ascii_own (x ∷ s) e =
    let h = ascii_octet x (and_left (small_ascii x) (every small_ascii s) e) in
    let k = ascii_own s (and_right (small_ascii x) (every small_ascii s) e) in
    (rw (lt-ltb x 128 h.0) k.0, rw (h.1, k.1))

-- a local part
module _ (s : List ℕ) (b : Bool) (e : b ≡ same_octets (octetwise 0 s) s) where
  pub small_steady : b ≡ true → true ≡ same_octets (lower_text s) s
  small_steady t =
      by_test (well_formed s)
      (λ f. rw (text_formed s f) (sym (sym e ∙ t)))
      (λ f. rw (text_broken s f) (sym (steady_small 0 s (sym e ∙ t))))

  module _ (f : Bool) (g : f ≡ well_formed s) where
    pub small_formed : b ≡ false → f ≡ true → false ≡ same_octets (lower_text s) s
    small_formed t u = rw (text_formed s (sym g ∙ u)) (sym (sym e ∙ t))

    pub small_broken : (c : Bool) → f ≡ false → c ≡ same_octets (lowered s) s → c ≡ same_octets (lower_text s) s
    small_broken c u q = q ∙ rw (text_broken s (sym g ∙ u))

pub ruleset local_small = (small_steady, small_formed, small_broken, rules)

-- the two sides, by the place of the "@"
module _ (s : List ℕ) (at : ℕ) (e : at ≡ 0 + length_before 64 s) where
  is_place : at ≡ length_before 64 s
  is_place = e ∙ zero-add _

  pub left_part : take at s ≡ before 64 s
  left_part = rw is_place (place_before 64 s)

  pub right_part : drop at s ≡ from 64 s
  right_part = rw is_place (place_from 64 s)

  pub at_within : at ≤ length s
  at_within = rw is_place (before_short (by 64 s))

pub tail_is : (s : List ℕ) (at : ℕ) → take (length s - at) (drop at s) ≡ drop at s
tail_is s at = take_all (length s - at) (drop at s) (simp length-drop (omega arith))

-- two joined texts, compared side by side
same_append : (a b c d : List ℕ) → length a ≡ length c → same_octets (a ++ b) (c ++ d) ≡ (same_octets a c && same_octets b d)
unfolding same_octets
same_append [] b [] d l = refl
same_append [] b (y ∷ c) d l = absurd (omega arith)
same_append (x ∷ a) b [] d l = absurd (omega arith)
same_append (x ∷ a) b (y ∷ c) d l = rw (same_append a b c d (omega arith)) (sym (and_assoc (eqb x y) _ _))

module _ (s : List ℕ) where
  pub own_ascii : (b : Bool) → b ≡ true → b ≡ every small_ascii s → true ≡ same_octets (lower_sides s) s
  own_ascii b t e =
      let k = ascii_own s (sym e ∙ t) in
      sym (ap (λ w. same_octets w s) (sides_ascii s k.0 ∙ k.1) ∙ same_refl s)

  whole : (same_octets (lower_text (before 64 s)) (before 64 s) && same_octets (lowered (from 64 s)) (from 64 s)) ≡ same_octets (lower_sides s) s
  unfolding lower_sides
  whole =
      sym (same_append (lower_text (before 64 s)) (lowered (from 64 s)) (before 64 s) (from 64 s) (alike_length (alike_text (before 64 s))))
      ∙ ap (same_octets (lower_text (before 64 s) ++ lowered (from 64 s))) (before_from 64 s)

  module _ (at : ℕ) (e : at ≡ 0 + length_before 64 s) (b : Bool) (p : b ≡ same_octets (lower_text (take at s)) (take at s)) where
    own_sides : (b && same_octets (lowered (drop at s)) (drop at s)) ≡ same_octets (lower_sides s) s
    own_sides = rw (p, left_part s at e, right_part s at e) whole

    pub own_left : b ≡ false → b ≡ same_octets (lower_sides s) s
    own_left f = f ∙ rw f at own_sides

    pub own_right : (c : Bool) → b ≡ true → c ≡ same_octets (lowered (take (length s - at) (drop at s))) (take (length s - at) (drop at s))
        → c ≡ same_octets (lower_sides s) s
    own_right c t q = q ∙ rw (tail_is s at) (rw t at own_sides)

pub ruleset being_own = (own_ascii, own_left, own_right, at_within, rules)

module _ (s : List ℕ) (p : Bool) (e : p ≡ ascii_plain s) where
  pub canonical_whole : (b : Bool) → p ≡ true → b ≡ same_octets (lower_sides s) s → b ≡ ascii_canonical s
  unfolding ascii_canonical
  canonical_whole b t q = rw (sym e ∙ t) q

  pub canonical_part : p ≡ false → false ≡ ascii_canonical s
  unfolding ascii_canonical
  canonical_part f = rw (sym e ∙ f)

  pub was_whole : (b : Bool) → p ≡ true → b ≡ same_octets (lowered s) s → b ≡ was_canonical s
  unfolding was_canonical ascii_form
  was_whole b t q = rw (sym e ∙ t) q

  pub was_part : p ≡ false → false ≡ was_canonical s
  unfolding was_canonical
  was_part f = rw (sym e ∙ f)

pub ruleset being_canonical = (canonical_whole, canonical_part, rules)

pub ruleset having_been_canonical = (was_whole, was_part, rules)
