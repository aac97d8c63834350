-- Lower case of code points (L21).
--     point_high                  nothing changes from U+0800 on; all below is computed
--     lower_point_twice, lower_points_twice      what is small stays as it is
--     lower_point_scalar, lower_points_scalar    a code point becomes one
--     point_low, point_past       what is ASCII stays ASCII, and what is not stays not
--     lower_points_length         as many code points as before
-- Assumes nothing.
use Prim.Native.Nat.{ℕ, ◌<◌, ◌≤◌}
use mathlib.Core.Path.{◌≡◌, refl, ap, ◌∙◌}
use mathlib.Core.Bool.{Bool, true, ◌&&◌, beq}
use mathlib.Core.List.{List, [], ◌∷◌}
use mathlib.Core.Logic.{⊎_elim}
use native.Mathlib.Omega.{arith}
use borrow.Author.Tests.{ltb-true, ltb-false, eqb-true, lt-ltb, le-ltb, le-leb, lt-leb}
use lib.Dec.{ltb, eqb}
use lib.ListN.{length, length-map}
use Rattle.octets.specs.Tests.{every}
use Rattle.octets.proofs.Lists.{lt_or_le}
use Rattle.octets.proofs.Tests.{and_left, and_right, same_bool, all_below_lem}
use Rattle.utf8.specs.Utf8.{scalar, scalars}
use Rattle.utf8.specs.Lowering.{lower_point, lower_points}

pub point_high : (p : ℕ) → 0x800 ≤ p → lower_point p ≡ p
unfolding lower_point
point_high p h =
    rw (
      le-leb 0x41 p (omega arith),
      lt-leb p 0x5A (omega arith),
      le-leb 0xC0 p (omega arith),
      lt-leb p 0xDE (omega arith),
      le-leb 0x391 p (omega arith),
      lt-leb p 0x3AB (omega arith),
      le-leb 0x410 p (omega arith),
      lt-leb p 0x42F (omega arith),
      le-leb 0x400 p (omega arith),
      lt-leb p 0x40F (omega arith),
    )

kept : ℕ → Bool
kept p =
    eqb (lower_point (lower_point p)) (lower_point p)
    && ltb (lower_point p) 0x800
    && beq (ltb (lower_point p) 0x80) (ltb p 0x80)

all_kept : (p : ℕ) → p < 0x800 → kept p ≡ true
unfolding kept lower_point
all_kept = all_below_lem kept 0x800 refl

-- each of the three, below U+0800
module _ (p : ℕ) (h : p < 0x800) where
  abbrev twice : Bool
  twice = eqb (lower_point (lower_point p)) (lower_point p)

  kept_two : (twice && ltb (lower_point p) 0x800) ≡ true
  unfolding kept
  kept_two = and_left (twice && ltb (lower_point p) 0x800) _ (all_kept p h)

  kept_twice : lower_point (lower_point p) ≡ lower_point p
  kept_twice = eqb-true _ _ (and_left twice (ltb (lower_point p) 0x800) kept_two)

  kept_below : lower_point p < 0x800
  kept_below = ltb-true (lower_point p) 0x800 (and_right twice (ltb (lower_point p) 0x800) kept_two)

  kept_ascii : ltb (lower_point p) 0x80 ≡ ltb p 0x80
  unfolding kept
  kept_ascii = same_bool _ _ (and_right (twice && ltb (lower_point p) 0x800) _ (all_kept p h))

pub lower_point_twice : (p : ℕ) → lower_point (lower_point p) ≡ lower_point p
lower_point_twice p =
    ⊎_elim (λ (h : p < 0x800). kept_twice p h) (λ (h : 0x800 ≤ p). ap lower_point (point_high p h)) (lt_or_le p 0x800)

pub lower_point_scalar : (p : ℕ) → scalar p ≡ true → scalar (lower_point p) ≡ true
unfolding scalar
lower_point_scalar p e =
    ⊎_elim
    (λ (h : p < 0x800). rw (lt-ltb (lower_point p) 0xD800 (omega (arith, kept_below p h))))
    (λ (h : 0x800 ≤ p). rw (point_high p h) e)
    (lt_or_le p 0x800)

point_ascii : (p : ℕ) → ltb (lower_point p) 0x80 ≡ ltb p 0x80
point_ascii p =
    ⊎_elim (λ (h : p < 0x800). kept_ascii p h) (λ (h : 0x800 ≤ p). rw (point_high p h)) (lt_or_le p 0x800)

pub point_low : (p : ℕ) → p < 0x80 → lower_point p < 0x80
point_low p l = ltb-true (lower_point p) 0x80 (point_ascii p ∙ lt-ltb p 0x80 l)

pub point_past : (p : ℕ) → 0x80 ≤ p → 0x80 ≤ lower_point p
point_past p l = ltb-false (lower_point p) 0x80 (point_ascii p ∙ le-ltb p 0x80 l)

pub lower_points_length : (ps : List ℕ) → length (lower_points ps) ≡ length ps
unfolding lower_points
lower_points_length ps = length-map ps lower_point

pub lower_points_twice : (ps : List ℕ) → lower_points (lower_points ps) ≡ lower_points ps
unfolding lower_points
lower_points_twice [] = refl
lower_points_twice (p ∷ ps) = rw (lower_point_twice p, lower_points_twice ps)

pub lower_points_scalar : (ps : List ℕ) → scalars ps ≡ true → scalars (lower_points ps) ≡ true
unfolding lower_points scalars every
lower_points_scalar [] e = refl
lower_points_scalar (p ∷ ps) e =
    rw (lower_point_scalar p (and_left (scalar p) (scalars ps) e)) (lower_points_scalar ps (and_right (scalar p) (scalars ps) e))
