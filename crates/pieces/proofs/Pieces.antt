-- Texts that are cut at an octet.
--     others, pieces_first          the pieces are what stands before the first such octet, and the others
--     behind_drop                   what stands behind it, as a part of the text
--     pieces_sides, sides_join      a text with such an octet: its pieces, and its two sides put together
--     pieces_last                   a text without one
--     before_long                   how long the first piece is
--     before_from .. from_opens     what stands before it and from it on
--     place_before, place_from      the same as parts of the text
--     pieces_octets, sides_octets   the octets of a text, from those of its pieces, or of its two sides
--     pieces_every, behind_every    and the other way round
--     before_into .. pieces_whole   a text that opens with other octets, or has only those
--     pieces_map                    a text whose octets are changed, but not into such ones or from them
--     joined_pieces                 the pieces put together again
--     pieces_joined                 pieces without such octets put together, and cut again
-- Assumes nothing.
use Prim.Native.Nat.{ℕ, suc, ◌+◌, ◌<◌, ◌≤◌}
use mathlib.Core.Path.{◌≡◌, refl, sym, ap, ◌∙◌}
use mathlib.Core.Bool.{Bool, true, false, not, ◌&&◌, ◌||◌, false≢true, and_assoc, or-true}
use mathlib.Core.List.{List, [], ◌∷◌, ◌++◌, map, append-nil}
use native.Mathlib.Omega.{arith}
use native.Mathlib.Numerals.{add-one}
use borrow.Author.Tests.{eq-eqb, ne_eqb, eqb-true}
use lib.Dec.{eqb}
use lib.ListN.{length, take, drop}
use Rattle.octets.specs.Finding.{length_before}
use Rattle.octets.specs.Tests.{every}
use Rattle.octets.proofs.Tests.{and_left, and_right, by_test}
use Rattle.octets.proofs.Every.{every_weaker}
use Rattle.pieces.specs.Pieces.{on_first, pieces, before, behind, from, following, joined}

-- the pieces are what stands before the first such octet, and the others
unfoldable pub others : ℕ → List ℕ → List (List ℕ)
others d [] = []
others d (x ∷ s) = elim (eqb x d) [ true ↦ pieces d s | false ↦ others d s ]

pub pieces_first : (d : ℕ) (s : List ℕ) → pieces d s ≡ before d s ∷ others d s
unfolding pieces before others on_first
pieces_first d [] = refl
pieces_first d (x ∷ s) =
    by_test (eqb x d) (λ e. rw (pieces, before, others, e)) (λ e. rw (pieces, before, others, e, pieces_first d s))

pub behind_drop : (d : ℕ) (s : List ℕ) → behind d s ≡ drop (length (before d s) + 1) s
unfolding behind before
behind_drop d [] = refl
behind_drop d (x ∷ s) =
    by_test (eqb x d) (λ e. rw (behind, before, e)) (λ e. rw (behind, before, e, behind_drop d s, add-one (length (before d s)), add-one (suc (length (before d s)))))

-- where there is such an octet, the others are the pieces of what stands behind it
others_behind : (d : ℕ) (s : List ℕ) → length (before d s) < length s → others d s ≡ pieces d (behind d s)
unfolding others behind before
others_behind d [] l = absurd (omega arith)
others_behind d (x ∷ s) l =
    by_test (eqb x d)
    (λ e. rw (others, behind, e))
    (λ e. rw (others, behind, e) (let k : suc (length (before d s)) < suc (length s) = rw (before, e) at l in others_behind d s (omega arith)))

pub pieces_sides : (d : ℕ) (s : List ℕ) → length (before d s) < length s → pieces d s ≡ before d s ∷ pieces d (behind d s)
pieces_sides d s l = pieces_first d s ∙ rw (others_behind d s l)

pub sides_join : (d : ℕ) (s : List ℕ) → length (before d s) < length s → s ≡ before d s ++ (d ∷ behind d s)
unfolding before behind
sides_join d [] l = absurd (omega arith)
sides_join d (x ∷ s) l =
    by_test (eqb x d)
    (λ e. rw (before, behind, e, eqb-true x d e))
    (λ e. rw (before, behind, e) (let k : suc (length (before d s)) < suc (length s) = rw (before, e) at l in ap (◌∷◌ x) (sides_join d s (omega arith))))

others_none : (d : ℕ) (s : List ℕ) → length s ≤ length (before d s) → others d s ≡ []
unfolding others before
others_none d [] l = refl
others_none d (x ∷ s) l =
    by_test (eqb x d)
    (λ e. absurd (let k : suc (length s) ≤ 0 = rw (before, e) at l in omega arith))
    (λ e. rw (others, e) (let k : suc (length s) ≤ suc (length (before d s)) = rw (before, e) at l in others_none d s (omega arith)))

pub pieces_last : (d : ℕ) (s : List ℕ) → length s ≤ length (before d s) → pieces d s ≡ before d s ∷ []
pieces_last d s l = pieces_first d s ∙ rw (others_none d s l)

-- what stands before the first such octet, and from it on
pub before_from : (d : ℕ) (s : List ℕ) → before d s ++ from d s ≡ s
unfolding before from
before_from d [] = refl
before_from d (x ∷ s) =
    by_test (eqb x d) (λ e. rw (before, from, e)) (λ e. rw (before, from, e, before_from d s))

pub before_free : (d : ℕ) (s : List ℕ) → every (λ x. not (eqb x d)) (before d s) ≡ true
unfolding before every
before_free d [] = refl
before_free d (x ∷ s) = by_test (eqb x d) (λ e. rw (before, e)) (λ e. rw (before, e) (rw e (before_free d s)))

pub from_opens : (d : ℕ) (s : List ℕ) → before d (from d s) ≡ []
unfolding before from
from_opens d [] = refl
from_opens d (x ∷ s) =
    by_test (eqb x d) (λ e. rw (from, e) (rw (before, e))) (λ e. rw (from, e) (from_opens d s))

-- as parts of the text, by the place of that octet
pub place_before : (d : ℕ) (s : List ℕ) → take (length_before d s) s ≡ before d s
unfolding length_before before
place_before d [] = refl
place_before d (x ∷ s) =
    by_test (eqb x d) (λ e. rw (length_before, before, e)) (λ e. rw (length_before, before, e, place_before d s))

pub before_long : (d : ℕ) (s : List ℕ) → length (before d s) ≡ length_before d s
unfolding length_before before
before_long d [] = refl
before_long d (x ∷ s) =
    by_test (eqb x d) (λ e. rw (length_before, before, e)) (λ e. rw (length_before, before, e, before_long d s))

pub place_from : (d : ℕ) (s : List ℕ) → drop (length_before d s) s ≡ from d s
unfolding length_before from
place_from d [] = refl
place_from d (x ∷ s) =
    by_test (eqb x d) (λ e. rw (length_before, from, e)) (λ e. rw (length_before, from, e, place_from d s))

-- What the octets of a text are, from those of its pieces, and from those on both sides of the first cut.
module _ (q : ℕ → Bool) (d : ℕ) where
  pub pieces_octets : (s : List ℕ) → every (every q) (pieces d s) ≡ true → every (λ x. q x || eqb x d) s ≡ true
  unfolding every pieces on_first
  pieces_octets [] e = refl
  pieces_octets (x ∷ s) e =
      by_test (eqb x d)
      (λ h. rw (h, or-true) (pieces_octets s (rw (pieces, h) at e)))
      (λ h.
      let t : (q x && (every q (before d s) && every (every q) (others d s))) ≡ true = rw (pieces, h, pieces_first d s, and_assoc) at e in
      rw (and_left (q x) _ t) (pieces_octets s (rw (pieces_first d s) (and_right (q x) _ t))))

  pub sides_octets : (s : List ℕ) → every q (before d s) ≡ true → every q (behind d s) ≡ true → every (λ x. q x || eqb x d) s ≡ true
  unfolding every before behind
  sides_octets [] a b = refl
  sides_octets (x ∷ s) a b =
      by_test (eqb x d)
      (λ h. rw (h, or-true) (every_weaker q (λ y. q y || eqb y d) (λ y k. rw k) s (rw (behind, h) at b)))
      (λ h.
      let t : (q x && every q (before d s)) ≡ true = rw (before, h) at a in
      rw (and_left (q x) _ t) (sides_octets s (and_right (q x) _ t) (rw (behind, h) at b)))

-- the other way round
module _ (q : ℕ → Bool) (d : ℕ) where
  pub pieces_every : (s : List ℕ) → every q s ≡ true → every (every q) (pieces d s) ≡ true
  unfolding every pieces on_first
  pieces_every [] e = refl
  pieces_every (x ∷ s) e =
      let k : every (every q) (pieces d s) ≡ true = pieces_every s (and_right (q x) (every q s) e) in
      by_test (eqb x d)
      (λ h. rw (pieces, h) k)
      (λ h. rw (pieces, h, pieces_first d s) (rw (and_left (q x) (every q s) e) (rw (pieces_first d s) at k)))

  pub behind_every : (s : List ℕ) → every q s ≡ true → every q (behind d s) ≡ true
  unfolding every behind
  behind_every [] e = refl
  behind_every (x ∷ s) e =
      by_test (eqb x d)
      (λ h. rw (behind, h) (and_right (q x) (every q s) e))
      (λ h. rw (behind, h) (behind_every s (and_right (q x) (every q s) e)))

-- A text that opens with octets of which q holds, and not of the octet d at which it is cut.
module _ (q : ℕ → Bool) (d : ℕ) (out : q d ≡ false) where
  apart : (x : ℕ) → q x ≡ true → eqb x d ≡ false
  apart x e = ne_eqb x d (λ p. false≢true (sym out ∙ ap q (sym p) ∙ e))

  pub before_into : (a b : List ℕ) → every q a ≡ true → before d (a ++ b) ≡ a ++ before d b
  unfolding every before
  before_into [] b e = refl
  before_into (x ∷ a) b e =
      rw (before, apart x (and_left (q x) (every q a) e), before_into a b (and_right (q x) (every q a) e))

  pub behind_into : (a b : List ℕ) → every q a ≡ true → behind d (a ++ b) ≡ behind d b
  unfolding every behind
  behind_into [] b e = refl
  behind_into (x ∷ a) b e =
      rw (behind, apart x (and_left (q x) (every q a) e), behind_into a b (and_right (q x) (every q a) e))

  pub from_into : (a b : List ℕ) → every q a ≡ true → from d (a ++ b) ≡ from d b
  unfolding every from
  from_into [] b e = refl
  from_into (x ∷ a) b e =
      rw (from, apart x (and_left (q x) (every q a) e), from_into a b (and_right (q x) (every q a) e))

  others_into : (a b : List ℕ) → every q a ≡ true → others d (a ++ b) ≡ others d b
  unfolding every others
  others_into [] b e = refl
  others_into (x ∷ a) b e =
      rw (others, apart x (and_left (q x) (every q a) e), others_into a b (and_right (q x) (every q a) e))

  pub pieces_into : (a b : List ℕ) → every q a ≡ true → pieces d (a ++ b) ≡ (a ++ before d b) ∷ others d b
  pieces_into a b e = pieces_first d (a ++ b) ∙ rw (before_into a b e, others_into a b e)

  pub pieces_whole : (a : List ℕ) → every q a ≡ true → pieces d a ≡ a ∷ []
  unfolding before others
  pieces_whole a e = ap (pieces d) (sym (append-nil a)) ∙ pieces_into a [] e ∙ rw append-nil

  following_before : (ps : List (List ℕ)) → before d (following d ps) ≡ []
  unfolding following before
  following_before [] = refl
  following_before (p ∷ ps) = rw (before, eq-eqb d d refl)

  module _ (p : List ℕ) (ps : List (List ℕ)) (e : every q p ≡ true) where
    one_joined : others d (following d ps) ≡ ps → pieces d (p ++ following d ps) ≡ p ∷ ps
    one_joined r = pieces_into p (following d ps) e ∙ rw (following_before ps, r, append-nil)

  others_following : (ps : List (List ℕ)) → every (every q) ps ≡ true → others d (following d ps) ≡ ps
  unfolding following others every
  others_following [] e = refl
  others_following (p ∷ ps) e =
      rw (others, eq-eqb d d refl)
      (one_joined p ps (and_left (every q p) _ e) (others_following ps (and_right (every q p) _ e)))

  pub pieces_joined : (p : List ℕ) (ps : List (List ℕ)) → every (every q) (p ∷ ps) ≡ true → pieces d (joined d (p ∷ ps)) ≡ p ∷ ps
  unfolding joined every
  pieces_joined p ps e = one_joined p ps (and_left (every q p) _ e) (others_following ps (and_right (every q p) _ e))

pub pieces_map : (f : ℕ → ℕ) (d : ℕ) → ((x : ℕ) → eqb (f x) d ≡ eqb x d) → (s : List ℕ) → pieces d (map f s) ≡ map (map f) (pieces d s)
unfolding pieces on_first
pieces_map f d keeps [] = refl
pieces_map f d keeps (x ∷ s) =
    by_test (eqb x d)
    (λ e. rw (pieces, pieces, keeps x, e, pieces_map f d keeps s))
    (λ e. rw (pieces, pieces, keeps x, e, pieces_map f d keeps s, pieces_first d s))

joined_all : (d : ℕ) (s : List ℕ) → before d s ++ following d (others d s) ≡ s
unfolding before others following
joined_all d [] = refl
joined_all d (x ∷ s) =
    by_test (eqb x d)
    (λ e. rw (before, others, e, pieces_first d s, eqb-true x d e) (ap (◌∷◌ d) (joined_all d s)))
    (λ e. rw (before, others, e) (ap (◌∷◌ x) (joined_all d s)))

pub joined_pieces : (d : ℕ) (s : List ℕ) → joined d (pieces d s) ≡ s
unfolding joined
joined_pieces d s = rw (pieces_first d s) (joined_all d s)
