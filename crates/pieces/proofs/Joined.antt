-- Pieces joined by an octet, all of which pass a test.
--     Cut q d test shape    the test asks that each octet is one of which q holds, as d does not, and that the piece has a shape
--     all_end               one piece
--     all_on                a piece, d, and the pieces of what is behind it
--     all_bad               a piece with another octet behind it
--     all_shapeless         a piece that has not the shape, whatever is behind it
--     cut_octets            the octets of the whole text
-- Assumes nothing.
use Prim.Native.Nat.{ℕ}
use mathlib.Core.Path.{◌≡◌, refl, sym, ◌∙◌}
use mathlib.Core.Bool.{Bool, true, false, ◌&&◌, ◌||◌, and-true, and-false}
use mathlib.Core.List.{List, [], ◌∷◌, ◌++◌, append-nil}
use borrow.Author.Tests.{eq-eqb, ne_eqb, eqb-true, eqb-false}
use lib.Dec.{eqb}
use Rattle.octets.specs.Tests.{every}
use Rattle.octets.proofs.Tests.{and_right, by_test}
use Rattle.octets.proofs.Every.{every_append, every_weaker}
use Rattle.runs.specs.Runs.{run}
use Rattle.runs.proofs.Running.{run_zero}
use Rattle.pieces.specs.Pieces.{pieces, before}
use Rattle.pieces.proofs.Pieces.{others, pieces_octets, pieces_into, pieces_whole}

pub record Cut (q : ℕ → Bool) (d : ℕ) (test shape : List ℕ → Bool) : Type 0 where
  pub out : q d ≡ false
  pub is : (p : List ℕ) → test p ≡ (shape p && every q p)

module _ {q : ℕ → Bool} {d : ℕ} {test shape : List ℕ → Bool} (c : Cut q d test shape) where
  well : (a : List ℕ) → every q a ≡ true → test a ≡ shape a
  well a e = c.is a ∙ rw e (and-true (shape a))

  pub all_end : (a : List ℕ) → every q a ≡ true → every test (pieces d a) ≡ shape a
  unfolding every
  all_end a e = rw (pieces_whole q d c.out a e, well a e) (and-true (shape a))

  pub all_on : (a b : List ℕ) → every q a ≡ true → every test (pieces d (a ++ d ∷ b)) ≡ (shape a && every test (pieces d b))
  unfolding every before others
  all_on a b e = rw (pieces_into q d c.out a (d ∷ b) e, before, others, eq-eqb d d refl, append-nil, well a e)

  pub all_bad : (a b : List ℕ) (x : ℕ) → every q a ≡ true → (x ≡ d → ⊥) → q x ≡ false → every test (pieces d (a ++ x ∷ b)) ≡ false
  unfolding every before others
  all_bad a b x e n f =
      rw (pieces_into q d c.out a (x ∷ b) e, before, others, ne_eqb x d n, c.is, every_append, f, and-false (every q a), and-false)

  pub all_shapeless : (a b : List ℕ) → every q a ≡ true → run q b ≡ 0 → shape a ≡ false → every test (pieces d (a ++ b)) ≡ false
  all_shapeless a [] e z f = rw append-nil (all_end a e ∙ f)
  all_shapeless a (x ∷ b) e z f =
      by_test (eqb x d)
      (λ h. rw (eqb-true x d h) (all_on a b e ∙ rw f))
      (λ h. all_bad a b x e (eqb-false x d h) (run_zero q x b z))

  pub cut_octets : (s : List ℕ) → every test (pieces d s) ≡ true → every (λ x. q x || eqb x d) s ≡ true
  cut_octets s e =
      pieces_octets q d s (every_weaker test (every q) (λ p t. and_right (shape p) (every q p) (sym (c.is p) ∙ t)) (pieces d s) e)
