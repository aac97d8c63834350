-- The order of faults in a list.
--     before_block .. before_kind    a fault before another, by what they differ in
--     all_before                     each fault of a list before each of another, by a test of each list
--     rising_both                    one list behind another
--     faults_here                    the faults of a field have its block and its place
--     one_rising .. rising_below     they are in their order, kind by kind
--     rising_kinds                   all of them are
--     rising_place                   and those at later places of the block may stand behind them
-- Assumes nothing.
use Prim.Native.Nat.{ℕ, zero, suc, ◌<◌, ◌≤◌}
use mathlib.Core.Path.{◌≡◌, refl, sym, ◌∙◌}
use mathlib.Core.Bool.{Bool, true, false, ◌&&◌, ◌||◌, or-true}
use mathlib.Core.List.{List, [], ◌∷◌, ◌++◌}
use native.Mathlib.Omega.{arith}
use borrow.Author.Tests.{ltb-true, eqb-true, lt-ltb, eq-eqb}
use lib.Dec.{eqb, ltb}
use Rattle.octets.specs.Tests.{every}
use Rattle.octets.proofs.Tests.{and_left, and_right}
use Rattle.octets.proofs.Every.{every_append, every_weaker}
use Rattle.faults.specs.declared.Flaws.{Flaws}
use Rattle.faults.specs.Faults.{Fault, has_kind, only_if, kinds_below, kinds, faults_at}
use Rattle.faults.specs.Found.{before, rising}
use Rattle.faults.proofs.Counting.{faults_both}

module _ (f g : Fault) where
  pub before_block : f.block < g.block → before f g ≡ true
  unfolding before
  before_block l = rw (lt-ltb f.block g.block l)

  module _ (e : f.block ≡ g.block) where
    pub before_place : f.place < g.place → before f g ≡ true
    unfolding before
    before_place l = rw (eq-eqb f.block g.block e, lt-ltb f.place g.place l, or-true (ltb f.block g.block))

    pub before_kind : f.place ≡ g.place → f.kind < g.kind → before f g ≡ true
    unfolding before
    before_kind p l =
        rw (eq-eqb f.block g.block e, eq-eqb f.place g.place p, lt-ltb f.kind g.kind l)
        (or-true (ltb f.block g.block || ltb f.place g.place))

pub all_before : (first second : Fault → Bool) (a b : List Fault) → every first a ≡ true → every second b ≡ true
    → ((f g : Fault) → first f ≡ true → second g ≡ true → before f g ≡ true)
    → every (λ (g : Fault). every (λ (f : Fault). before f g) a) b ≡ true
all_before first second a b p q h =
    every_weaker second (λ (g : Fault). every (λ (f : Fault). before f g) a)
    (λ g e. every_weaker first (λ (f : Fault). before f g) (λ f d. h f g d e) a p) b q

pub rising_both : (a b : List Fault) → rising a ≡ true → rising b ≡ true → every (λ (g : Fault). every (λ (f : Fault). before f g) a) b ≡ true
    → rising (a ++ b) ≡ true
unfolding rising every
rising_both [] b p q h = q
rising_both (f ∷ []) [] p q h = refl
rising_both (f ∷ []) (g ∷ b) p q h = rw (and_left (before f g) true (and_left (before f g && true) _ h)) q
rising_both (f ∷ g ∷ a) b p q h =
    rw (and_left (before f g) (rising (g ∷ a)) p)
    (rising_both (g ∷ a) b (and_right (before f g) (rising (g ∷ a)) p) q
    (every_weaker (λ (x : Fault). every (λ (f : Fault). before f x) (f ∷ g ∷ a)) (λ (x : Fault). every (λ (f : Fault). before f x) (g ∷ a))
    (λ x e. and_right (before f x) _ e) b h))

module _ (block place : ℕ) where
  pub faults_here : (ks : List ℕ) → every (λ (f : Fault). eqb f.block block && eqb f.place place) (faults_at block place ks) ≡ true
  unfolding every faults_at
  faults_here [] = refl
  faults_here (k ∷ ks) = rw (eq-eqb block block refl, eq-eqb place place refl) (faults_here ks)

  here_before : (f g : Fault) → (eqb f.block block && eqb f.place place) ≡ true → (eqb g.block block && ltb place g.place) ≡ true
      → before f g ≡ true
  here_before f g d e =
      before_place f g
      (eqb-true f.block block (and_left _ (eqb f.place place) d) ∙ sym (eqb-true g.block block (and_left _ (ltb place g.place) e)))
      (omega (
        arith,
        eqb-true f.place place (and_right (eqb f.block block) _ d),
        ltb-true place g.place (and_right (eqb g.block block) _ e),
      ))

  -- the fault of this kind
  abbrev at : ℕ → Fault
  at k = record { block = block; place = place; kind = k }

  one_rising : (b : Bool) (k : ℕ) → rising (faults_at block place (only_if b k)) ≡ true
  unfolding rising faults_at only_if
  one_rising true k = refl
  one_rising false k = refl

  one_behind : (a : List Fault) (b : Bool) (k : ℕ) → every (λ (f : Fault). before f (at k)) a ≡ true
      → every (λ (g : Fault). every (λ (f : Fault). before f g) a) (faults_at block place (only_if b k)) ≡ true
  unfolding every faults_at only_if
  one_behind a true k h = rw h
  one_behind a false k h = refl

  one_before : (b : Bool) (k n : ℕ) → k < n → every (λ (f : Fault). before f (at n)) (faults_at block place (only_if b k)) ≡ true
  unfolding every faults_at only_if
  one_before true k n l = rw (before_kind (at k) (at n) refl refl l)
  one_before false k n l = refl

  module _ (w : Flaws) where
    below_before : (m n : ℕ) → m ≤ n → every (λ (f : Fault). before f (at n)) (faults_at block place (kinds_below w m)) ≡ true
    unfolding kinds_below faults_at every
    below_before zero n l = refl
    below_before (suc m) n l =
        rw (faults_both, every_append, below_before m n (omega arith)) (one_before (has_kind w m) m n (omega arith))

    rising_below : (n : ℕ) → rising (faults_at block place (kinds_below w n)) ≡ true
    unfolding kinds_below faults_at rising
    rising_below zero = refl
    rising_below (suc n) =
        rw faults_both
        (rising_both (faults_at block place (kinds_below w n)) (faults_at block place (only_if (has_kind w n) n)) (rising_below n)
        (one_rising (has_kind w n) n)
        (one_behind _ (has_kind w n) n (below_before n n (omega arith))))

    pub rising_kinds : rising (faults_at block place (kinds w)) ≡ true
    unfolding kinds
    rising_kinds = rising_below 9

    pub rising_place : (rest : List Fault) → rising rest ≡ true → every (λ (g : Fault). eqb g.block block && ltb place g.place) rest ≡ true
        → rising (faults_at block place (kinds w) ++ rest) ≡ true
    rising_place rest p q =
        rising_both (faults_at block place (kinds w)) rest rising_kinds p (all_before _ _ _ rest (faults_here (kinds w)) q here_before)
