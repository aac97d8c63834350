-- What a text stands for, group by group.
--     behind_three      what it stands for behind its first octets
--     Stands, stands    a text and the octets that it stands for
--     decode_octets     these are octets
-- Assumes nothing.
use Prim.Native.Nat.{ℕ, ◌%◌, ◌<◌}
use mathlib.Core.Path.{◌≡◌, refl}
use mathlib.Core.List.{List, [], ◌∷◌, ◌++◌}
use Rattle.std.specs.Prelude.{Option, Some, None}
use native.Mathlib.Omega.{arith}
use lib.Dec.{eqb}
use Rattle.octets.specs.Octets.{AllOctets}
use Rattle.octets.proofs.Joined.{more_octets}
use Rattle.letters.specs.Base64.{sign_of, closed, grouped, group_of, before, at_end, follow, decode, octets_in}
use Rattle.letters.specs.Tables.{Low}
use Rattle.letters.proofs.Alphabet.{chosen, below}
use Rattle.letters.specs.declared.Sign.{Sign}
use Rattle.letters.specs.declared.Sign.TheVariants.{Value, Pad, Other}
use Rattle.letters.specs.declared.Group.{Group}
use Rattle.letters.specs.declared.Group.TheVariants.{Three, Two, One, Broken}

-- what a text stands for, where it goes on with three octets
pub behind_three : (w v : List ℕ) (o : Option (List ℕ)) → before w o ≡ Some v → (o ≡ Some (octets_in o)) × (v ≡ w ++ octets_in o)
unfolding before octets_in
behind_three w v None e = let z : ◌≡◌ {A = ℕ} 0 1 = cc in absurd (omega arith)
behind_three w v (Some u) e = (refl, cc)

-- a text and the octets that it stands for, group by group
pub data Stands : List ℕ → List ℕ → Type 0 where
  nothing : Stands [] []
  three : {a b c d x y z : ℕ} {t v : List ℕ} → group_of a b c d ≡ Three x y z → Stands t v → Stands (a ∷ b ∷ c ∷ d ∷ t) (x ∷ y ∷ z ∷ v)
  two : {a b c d x y : ℕ} → group_of a b c d ≡ Two x y → Stands (a ∷ b ∷ c ∷ d ∷ []) (x ∷ y ∷ [])
  one : {a b c d x : ℕ} → group_of a b c d ≡ One x → Stands (a ∷ b ∷ c ∷ d ∷ []) (x ∷ [])

module _ (a b c d : ℕ) (w : List ℕ) where
  stands_by : (g : Group) → group_of a b c d ≡ g → (t : List ℕ) → ((v : List ℕ) → decode t ≡ Some v → Stands t v)
      → follow g t (decode t) ≡ Some w → Stands (a ∷ b ∷ c ∷ d ∷ t) w
  unfolding follow at_end
  stands_by (Three x y z) q t ih e =
      let r = behind_three (x ∷ y ∷ z ∷ []) w (decode t) e in
      rw r.1 (three q (ih (octets_in (decode t)) r.0))
  stands_by (Two x y) q [] ih e = let r : w ≡ x ∷ y ∷ [] = cc in rw r (two q)
  stands_by (Two x y) q (k ∷ t) ih e = let z : ◌≡◌ {A = ℕ} 0 1 = cc in absurd (omega arith)
  stands_by (One x) q [] ih e = let r : w ≡ x ∷ [] = cc in rw r (one q)
  stands_by (One x) q (k ∷ t) ih e = let z : ◌≡◌ {A = ℕ} 0 1 = cc in absurd (omega arith)
  stands_by Broken q t ih e = let z : ◌≡◌ {A = ℕ} 0 1 = cc in absurd (omega arith)

pub stands : (t w : List ℕ) → decode t ≡ Some w → Stands t w
unfolding decode
stands [] w e = let r : w ≡ [] = cc in rw r nothing
stands (a ∷ []) w e = let z : ◌≡◌ {A = ℕ} 0 1 = cc in absurd (omega arith)
stands (a ∷ b ∷ []) w e = let z : ◌≡◌ {A = ℕ} 0 1 = cc in absurd (omega arith)
stands (a ∷ b ∷ c ∷ []) w e = let z : ◌≡◌ {A = ℕ} 0 1 = cc in absurd (omega arith)
stands (a ∷ b ∷ c ∷ d ∷ t) w e = stands_by a b c d w (group_of a b c d) refl t (λ v q. stands t v q) e

-- the octets of a group
OctetsOf : Group → Type 0
OctetsOf (Three x y z) = (x < 256) × (y < 256) × (z < 256)
OctetsOf (Two x y) = (x < 256) × (y < 256)
OctetsOf (One x) = x < 256
OctetsOf Broken = Unit

module _ (p q : ℕ) (h : p < 64) (k : q < 64) where
  closed_octets : (r s : Sign) → Low r → Low s → OctetsOf (closed p q r s)
  unfolding closed OctetsOf
  closed_octets (Value r) (Value s) l m = omega arith
  closed_octets (Value r) Pad l m = chosen OctetsOf (eqb (r % 4) 0) _ Broken (λ _. omega arith) (λ _. tt)
  closed_octets (Value r) Other l m = tt
  closed_octets Pad (Value s) l m = tt
  closed_octets Pad Pad l m = chosen OctetsOf (eqb (q % 16) 0) _ Broken (λ _. omega arith) (λ _. tt)
  closed_octets Pad Other l m = tt
  closed_octets Other s l m = tt

grouped_octets : (p q r s : Sign) → Low p → Low q → Low r → Low s → OctetsOf (grouped p q r s)
unfolding grouped OctetsOf
grouped_octets (Value p) (Value q) r s h k l m = closed_octets p q h k r s l m
grouped_octets (Value p) Pad r s h k l m = tt
grouped_octets (Value p) Other r s h k l m = tt
grouped_octets Pad q r s h k l m = tt
grouped_octets Other q r s h k l m = tt

low : (x : ℕ) → Low (sign_of x)
low x = go (sign_of x) refl
  where
    go : (s : Sign) → sign_of x ≡ s → Low s
    go (Value v) e = below x v e
    go Pad e = tt
    go Other e = tt

group_octets : (a b c d : ℕ) → OctetsOf (group_of a b c d)
group_octets a b c d = grouped_octets (sign_of a) (sign_of b) (sign_of c) (sign_of d) (low a) (low b) (low c) (low d)

octets_none : AllOctets []
octets_none i = omega arith

all_octets : {t w : List ℕ} → Stands t w → AllOctets w
unfolding OctetsOf
all_octets nothing = octets_none
all_octets (three {a} {b} {c} {d} {x} {y} {z} {t} {v} q r) =
    let o = rw q at (group_octets a b c d) in
    more_octets x (y ∷ z ∷ v) o.0 (more_octets y (z ∷ v) o.1 (more_octets z v o.2 (all_octets r)))
all_octets (two {a} {b} {c} {d} {x} {y} q) =
    let o = rw q at (group_octets a b c d) in more_octets x (y ∷ []) o.0 (more_octets y [] o.1 octets_none)
all_octets (one {a} {b} {c} {d} {x} q) = more_octets x [] (rw q at (group_octets a b c d)) octets_none

pub decode_octets : (t w : List ℕ) → decode t ≡ Some w → AllOctets w
decode_octets t w e = all_octets (stands t w e)
