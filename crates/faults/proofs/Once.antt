-- In a list that rises no fault stands twice.
--     Before f g       f is before g: by their blocks, by their places or by their kinds
--     told, tell       this, and the test for it
--     apart            they are not the same
--     far              before one that is before a third
--     rising_rest      a list that rises does so without its first
--     behind_first     its first is before each behind it
--     rising_once      and so does not stand there again
-- Assumes nothing.
use Prim.Native.Nat.{◌<◌}
use mathlib.Core.Path.{◌≡◌, refl}
use mathlib.Core.Bool.{true, false, ◌&&◌, and-false, false≢true}
use mathlib.Core.List.{List, [], ◌∷◌}
use native.Mathlib.Omega.{arith}
use borrow.Author.Tests.{ltb-true, eqb-true, ne_eqb}
use lib.Dec.{eqb, ltb}
use Rattle.octets.specs.Tests.{every}
use Rattle.octets.proofs.Tests.{by_test, and_left, and_right}
use Rattle.octets.proofs.Every.{every_weaker}
use Rattle.faults.specs.Faults.{Fault}
use Rattle.faults.specs.Found.{same_fault, is_in, before, rising}
use Rattle.faults.proofs.Rising.{before_block, before_place, before_kind}

data Before (f g : Fault) : Type 0 where
  by_block : f.block < g.block → Before f g
  by_place : f.block ≡ g.block → f.place < g.place → Before f g
  by_kind : f.block ≡ g.block → f.place ≡ g.place → f.kind < g.kind → Before f g

module _ (f g : Fault) where
  told : before f g ≡ true → Before f g
  unfolding before
  told h =
      by_test (ltb f.block g.block)
      (λ e. by_block (ltb-true f.block g.block e))
      (λ e. by_test (eqb f.block g.block)
      (λ b. let q = eqb-true f.block g.block b in
      by_test (ltb f.place g.place)
      (λ d. by_place q (ltb-true f.place g.place d))
      (λ d. let k : (eqb f.place g.place && ltb f.kind g.kind) ≡ true = rw (e, b, d) at h in
      by_kind q (eqb-true f.place g.place (and_left _ (ltb f.kind g.kind) k)) (ltb-true f.kind g.kind (and_right (eqb f.place g.place) _ k))))
      (λ b. absurd (false≢true (rw (e, b) at h))))

  tell : Before f g → before f g ≡ true
  tell (by_block l) = before_block f g l
  tell (by_place e l) = before_place f g e l
  tell (by_kind e p l) = before_kind f g e p l

  apart : Before f g → same_fault f g ≡ false
  unfolding same_fault
  apart (by_block l) = rw (ne_eqb f.block g.block (λ q. omega arith))
  apart (by_place e l) = rw (ne_eqb f.place g.place (λ q. omega arith), and-false (eqb f.block g.block))
  apart (by_kind e p l) = rw (ne_eqb f.kind g.kind (λ q. omega arith)) (and-false (eqb f.block g.block && eqb f.place g.place))

far : (f g h : Fault) → Before f g → Before g h → Before f h
far f g h (by_block l) (by_block m) = by_block (omega arith)
far f g h (by_block l) (by_place e m) = by_block (omega arith)
far f g h (by_block l) (by_kind e p m) = by_block (omega arith)
far f g h (by_place e l) (by_block m) = by_block (omega arith)
far f g h (by_place e l) (by_place d m) = by_place (omega arith) (omega arith)
far f g h (by_place e l) (by_kind d p m) = by_place (omega arith) (omega arith)
far f g h (by_kind e p l) (by_block m) = by_block (omega arith)
far f g h (by_kind e p l) (by_place d m) = by_place (omega arith) (omega arith)
far f g h (by_kind e p l) (by_kind d q m) = by_kind (omega arith) (omega arith) (omega arith)

pub rising_rest : (f : Fault) (l : List Fault) → rising (f ∷ l) ≡ true → rising l ≡ true
unfolding rising
rising_rest f [] e = refl
rising_rest f (g ∷ l) e = and_right (before f g) (rising (g ∷ l)) e

behind_first : (f : Fault) (l : List Fault) → rising (f ∷ l) ≡ true → every (before f) l ≡ true
unfolding rising every
behind_first f [] e = refl
behind_first f (g ∷ l) e =
    let b : before f g ≡ true = and_left (before f g) (rising (g ∷ l)) e in
    rw b
    (every_weaker (before g) (before f) (λ h d. tell f h (far f g h (told f g b) (told g h d))) l
    (behind_first g l (rising_rest f (g ∷ l) e)))

not_in : (f : Fault) (l : List Fault) → every (before f) l ≡ true → is_in f l ≡ false
unfolding is_in every
not_in f [] e = refl
not_in f (g ∷ l) e =
    rw (apart f g (told f g (and_left (before f g) (every (before f) l) e))) (not_in f l (and_right (before f g) (every (before f) l) e))

pub rising_once : (f : Fault) (l : List Fault) → rising (f ∷ l) ≡ true → is_in f l ≡ false
rising_once f l e = not_in f l (behind_first f l e)
