-- The numbers of faults written one after the other.
--     kind_none                   `has_kind`: no kind
--     row                         the kinds, with whether they are there
--     Laid                        `put_flaws`: the faults of the kinds below a number are written
--     laid_begin .. laid_turn     the loop's steps
-- Assumes nothing.
use Prim.Native.Nat.{ℕ, zero, suc, ◌+◌, ◌-◌, ◌≤◌, ◌<◌}
use mathlib.Core.Path.{◌≡◌, refl, sym, ◌∙◌}
use mathlib.Core.Bool.{Bool, true, false}
use mathlib.Core.List.{List, [], ◌∷◌, ◌++◌}
use native.Mathlib.Omega.{arith}
use borrow.Author.Tests.{ne_eqb}
use lib.ListN.{length, get_or, length-append}
use Rattle.faults.specs.declared.Flaws.{Flaws}
use Rattle.faults.specs.Faults.{has_kind, only_if, kinds_below, kinds, faults_at, numbers_of}
use Rattle.faults.specs.Laying.{laid_at, numbers_if, room}
use Rattle.faults.proofs.Laying.{laid_none, laid_both}
use Rattle.faults.proofs.Counting.{numbers_both, numbers_long, faults_both, faults_long, kinds_none, kinds_next, few_kinds}

-- no other number is a kind
module _ (w : Flaws) (k : ℕ) where
  pub kind_none : (k ≡ 2 → ⊥) → (k ≡ 3 → ⊥) → (k ≡ 4 → ⊥) → (k ≡ 5 → ⊥) → (k ≡ 6 → ⊥) → (k ≡ 7 → ⊥) → (k ≡ 8 → ⊥) → false ≡ has_kind w k
  unfolding has_kind
  kind_none n₂ n₃ n₄ n₅ n₆ n₇ n₈ =
      rw (ne_eqb k 2 n₂, ne_eqb k 3 n₃, ne_eqb k 4 n₄, ne_eqb k 5 n₅, ne_eqb k 6 n₆, ne_eqb k 7 n₇, ne_eqb k 8 n₈)

-- the numbers of the faults of the kinds below k
abbrev pub numbers_below : Flaws → ℕ → ℕ → ℕ → List ℕ
numbers_below w block place k = numbers_of (faults_at block place (kinds_below w k))

numbers_one : (b : Bool) (block place k : ℕ) → numbers_of (faults_at block place (only_if b k)) ≡ numbers_if b block place k
unfolding numbers_of faults_at only_if numbers_if
numbers_one true block place k = refl
numbers_one false block place k = refl

one_more : (w : Flaws) (block place k : ℕ)
    → numbers_below w block place (k + 1) ≡ numbers_below w block place k ++ numbers_if (has_kind w k) block place k
one_more w block place k = rw (kinds_next w k, faults_both, numbers_both, numbers_one)

-- the kinds in their order, each with whether it is there
abbrev pub row : Flaws → List (ℕ × Bool)
row w =
    (2, w.more_valid)
    ∷ (3, w.wrong_address)
    ∷ (4, w.unknown_attribute)
    ∷ (5, w.key_data)
    ∷ (6, w.gossip_outside)
    ∷ (7, w.gossip_unlisted)
    ∷ (8, w.gossip_preference)
    ∷ []

row_kind : (w : Flaws) (i : ℕ) → i < 7 → (get_or (row w) i (0, false)).0 ≡ i + 2
row_kind w zero h = refl
row_kind w (suc zero) h = refl
row_kind w (suc (suc zero)) h = refl
row_kind w (suc (suc (suc zero))) h = refl
row_kind w (suc (suc (suc (suc zero)))) h = refl
row_kind w (suc (suc (suc (suc (suc zero))))) h = refl
row_kind w (suc (suc (suc (suc (suc (suc zero)))))) h = refl
row_kind w (suc (suc (suc (suc (suc (suc (suc i))))))) h = absurd (omega arith)

row_there : (w : Flaws) (i : ℕ) → i < 7 → (get_or (row w) i (0, false)).1 ≡ has_kind w (i + 2)
unfolding has_kind
row_there w zero h = refl
row_there w (suc zero) h = refl
row_there w (suc (suc zero)) h = refl
row_there w (suc (suc (suc zero))) h = refl
row_there w (suc (suc (suc (suc zero)))) h = refl
row_there w (suc (suc (suc (suc (suc zero))))) h = refl
row_there w (suc (suc (suc (suc (suc (suc zero)))))) h = refl
row_there w (suc (suc (suc (suc (suc (suc (suc i))))))) h = absurd (omega arith)

-- `put_flaws`: d is the list as it came and out as it is now, written from `at` to `to`
pub record Laid (w : Flaws) (block place at : ℕ) (d out : List ℕ) (k to : ℕ) : Type 0 where
  pub first : 2 ≤ k
  pub last : k ≤ 9
  pub fits : at + 21 ≤ room
  pub behind : to ≡ at + length (numbers_below w block place k)
  pub so_far : out ≡ laid_at d at (numbers_below w block place k)

module _ (w : Flaws) (block place at : ℕ) (d : List ℕ) where
  pub laid_begin : at + 21 ≤ room → Laid w block place at d d 2 at
  unfolding numbers_of faults_at
  laid_begin h =
      record {
        first = omega arith;
        last = omega arith;
        fits = h;
        behind = rw (kinds_none w) (omega arith);
        so_far = rw (kinds_none w) (sym (laid_none d at));
      }

  module _ (out : List ℕ) (k to : ℕ) (h : Laid w block place at d out k to) where
    pub laid_room : to ≤ room
    laid_room =
        let e : (k - 2) + 2 ≡ k = omega (arith, h.first) in
        omega (
          arith,
          h.behind,
          h.last,
          h.fits,
          numbers_long (faults_at block place (kinds_below w k)),
          faults_long block place (kinds_below w k),
          rw e at (few_kinds w (k - 2)),
        )

    pub laid_next : k ≤ 8 → (b : Bool) → b ≡ has_kind w k → (out₁ : List ℕ) (to₁ : ℕ) → to₁ ≡ to + length (numbers_if b block place k)
        → out₁ ≡ laid_at out to (numbers_if b block place k) → Laid w block place at d out₁ (k + 1) to₁
    laid_next l b e out₁ to₁ p q =
        record {
          first = omega (arith, h.first);
          last = omega arith;
          fits = h.fits;
          behind = rw (one_more w block place k, length-append, ← e) (omega (arith, h.behind));
          so_far = rw (one_more w block place k, ← e) (q ∙ rw (h.behind, h.so_far) (laid_both d at _ _));
        }

    pub laid_place : 8 < k → to ≡ at + length (numbers_of (faults_at block place (kinds w)))
    unfolding kinds
    laid_place l = let e : k ≡ 9 = omega (arith, h.last) in rw e at h.behind

    pub laid_all : 8 < k → out ≡ laid_at d at (numbers_of (faults_at block place (kinds w)))
    unfolding kinds
    laid_all l = let e : k ≡ 9 = omega (arith, h.last) in rw e at h.so_far

-- a turn with the i-th of the kinds
pub laid_turn : (w : Flaws) (block place at : ℕ) (d out : List ℕ) (i to : ℕ) → Laid w block place at d out (i + 2) to → i < 7 → (out₁ : List ℕ) (to₁ : ℕ)
    → to₁ ≡ to + length (numbers_if (get_or (row w) i (0, false)).1 block place (get_or (row w) i (0, false)).0)
    → out₁ ≡ laid_at out to (numbers_if (get_or (row w) i (0, false)).1 block place (get_or (row w) i (0, false)).0)
    → Laid w block place at d out₁ (i + 1 + 2) to₁
laid_turn w block place at d out i to h l out₁ to₁ p q =
    let e : i + 2 + 1 ≡ i + 1 + 2 = omega arith in
    rw e at
    (laid_next w block place at d out (i + 2) to h (omega arith) (has_kind w (i + 2)) refl out₁ to₁ (rw (row_kind w i l, row_there w i l) at p)
    (rw (row_kind w i l, row_there w i l) at q))
