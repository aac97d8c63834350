-- What holds of every element of a text holds of its pieces, and of what a piece names.
--     named_value        the value of an attribute stands behind the "=" (61)
--     every_pieces       the pieces of a text
--     every_named        the address that a piece names
-- Assumes nothing.
use Prim.Native.Nat.{ℕ}
use mathlib.Core.Path.{◌≡◌, refl}
use mathlib.Core.Bool.{Bool, true}
use mathlib.Core.List.{List, [], ◌∷◌, reverse}
use lib.Dec.{eqb}
use Rattle.octets.specs.Octets.{blank}
use Rattle.octets.specs.Finding.{holds}
use Rattle.octets.specs.Tests.{every}
use Rattle.octets.proofs.Tests.{by_test, and_left, and_right}
use Rattle.pieces.specs.Pieces.{on_first, pieces, before, behind}
use Rattle.pieces.proofs.Pieces.{others, pieces_first}
use Rattle.attributes.specs.Attribute.{trimmed_front, trimmed_back, trimmed, name_of, attribute, addr, spoiling, attribute_of}
use Rattle.attributes.specs.declared.Name.{Name}
use Rattle.attributes.specs.declared.Name.TheVariants.{Addr, PreferEncrypt, Keydata, Ignored, Unknown}
use Rattle.attributes.proofs.Trimming.{every_reverse}

-- the value of an attribute is what stands behind the "=", trimmed
value_by : (g : Name) (w v : List ℕ) → attribute g w ≡ addr v → v ≡ w
unfolding attribute
value_by Addr w v e = cc
value_by PreferEncrypt w v e = cc
value_by Keydata w v e = cc
value_by Ignored w v e = cc
value_by Unknown w v e = cc

named_value : (p v : List ℕ) → attribute_of p ≡ addr v → v ≡ trimmed (behind 61 p)
unfolding attribute_of
named_value p v e =
    by_test (holds 61 p)
    (λ t. value_by (name_of (trimmed (before 61 p))) (trimmed (behind 61 p)) v (rw (attribute_of, t) at e))
    (λ t. let k : spoiling ≡ addr v = rw (attribute_of, t) at e in cc)

-- every element
module _ (q : ℕ → Bool) where
  pub every_pieces : (d : ℕ) (s : List ℕ) → every q s ≡ true → every (every q) (pieces d s) ≡ true
  unfolding every pieces on_first
  every_pieces d [] e = refl
  every_pieces d (x ∷ s) e =
      let h : every (every q) (before d s ∷ others d s) ≡ true = rw (pieces_first d s) at (every_pieces d s (and_right (q x) (every q s) e)) in
      by_test (eqb x d)
      (λ t. rw (pieces, t) (every_pieces d s (and_right (q x) (every q s) e)))
      (λ t. rw (pieces, t, pieces_first d s, and_left (q x) (every q s) e) h)

  every_behind : (d : ℕ) (s : List ℕ) → every q s ≡ true → every q (behind d s) ≡ true
  unfolding every behind
  every_behind d [] e = refl
  every_behind d (x ∷ s) e =
      by_test (eqb x d)
      (λ t. rw (behind, t) (and_right (q x) (every q s) e))
      (λ t. rw (behind, t) (every_behind d s (and_right (q x) (every q s) e)))

  every_front : (s : List ℕ) → every q s ≡ true → every q (trimmed_front s) ≡ true
  unfolding every trimmed_front
  every_front [] e = refl
  every_front (x ∷ s) e =
      by_test (blank x)
      (λ t. rw (trimmed_front, t) (every_front s (and_right (q x) (every q s) e)))
      (λ t. rw (trimmed_front, t) e)

  every_trimmed : (s : List ℕ) → every q s ≡ true → every q (trimmed s) ≡ true
  unfolding trimmed trimmed_back
  every_trimmed s e =
      every_reverse q (trimmed_front (reverse (trimmed_front s))) (every_front (reverse (trimmed_front s)) (every_reverse q (trimmed_front s) (every_front s e)))

  pub every_named : (p v : List ℕ) → every q p ≡ true → attribute_of p ≡ addr v → every q v ≡ true
  every_named p v t e = rw (named_value p v e) (every_trimmed (behind 61 p) (every_behind 61 p t))
