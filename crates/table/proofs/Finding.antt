-- Where an address stands, as callers ask for it.
--     lowest_at, lowest_nothing, lowest_none    what the lowest slot that passes a test tells, and that there is none
--     found_at, found_nothing                   the slot of an address: an index of the table, a used slot with that address; or no slot has it
--     free_at                                   the lowest free slot
-- Assumes nothing.
use Rattle.std.specs.Prelude.{Some, None}
use Prim.Native.Nat.{ℕ, suc, zero, ◌+◌, ◌<◌, ◌≤◌}
use mathlib.Core.Path.{◌≡◌, refl, sym, ◌∙◌}
use mathlib.Core.Logic.{⊎_elim}
use mathlib.Core.Bool.{Bool, true, false}
use mathlib.Core.List.{List}
use native.Mathlib.Omega.{arith}
use borrow.Author.Tests.{not-true}
use Rattle.octets.specs.Octets.{same_octets}
use Rattle.octets.proofs.Comparing.{same_true}
use Rattle.octets.proofs.Lists.{lt_or_le}
use Rattle.octets.proofs.Tests.{and_left, and_right, by_test}
use Rattle.slots.specs.Slot.{marked, address_of}
use Rattle.table.specs.Table.{slots, slot_at, unused, has_address, lowest, found, lowest_free}
use Rattle.table.proofs.Scanning.{lowest_here, lowest_later}

pub record Lowest (test : List ℕ → Bool) (t : List ℕ) (i k j : ℕ) : Type 0 where
  pub from : i ≤ j
  pub below : j < i + k
  pub passes : test (slot_at t j) ≡ true
  pub first : (m : ℕ) → i ≤ m → m < j → test (slot_at t m) ≡ false

module _ (test : List ℕ → Bool) (t : List ℕ) where
  -- the slot i, and those behind it
  from_next : (P : ℕ → Type 0) (i m : ℕ) → i ≤ m → P i → (i + 1 ≤ m → P m) → P m
  from_next P i m l here later =
      ⊎_elim (λ (h : i < m). later (omega arith)) (λ (h : m ≤ i). let e : i ≡ m = omega arith in rw e at here) (lt_or_le i m)

  pub lowest_at : (i k j : ℕ) → lowest test t i k ≡ Some j → Lowest test t i k j
  unfolding lowest
  lowest_at i zero j e = let z : ◌≡◌ {A = ℕ} 0 1 = cc in absurd (omega arith)
  lowest_at i (suc k) j e =
      by_test (test (slot_at t i))
      (λ h.
      let q : Some i ≡ Some j = sym (lowest_here test t i k h) ∙ e in
      let p : i ≡ j = cc in
      record { from = omega arith; below = omega arith; passes = rw p at h; first = λ m a b. absurd (omega arith) })
      (λ h.
      let r : Lowest test t (i + 1) k j = lowest_at (i + 1) k j (sym (lowest_later test t i k h) ∙ e) in
      record {
        from = omega (arith, r.from);
        below = omega (arith, r.below);
        passes = r.passes;
        first = λ m a b. from_next (λ (n : ℕ). test (slot_at t n) ≡ false) i m a h (λ c. r.first m c b);
      })

  pub lowest_nothing : (i k : ℕ) → lowest test t i k ≡ None → (m : ℕ) → i ≤ m → m < i + k → test (slot_at t m) ≡ false
  unfolding lowest
  lowest_nothing i zero e m a b = absurd (omega arith)
  lowest_nothing i (suc k) e m a b =
      by_test (test (slot_at t i))
      (λ h.
      let q : Some i ≡ None = sym (lowest_here test t i k h) ∙ e in
      let z : ◌≡◌ {A = ℕ} 0 1 = cc in
      absurd (omega arith))
      (λ h.
      from_next (λ (n : ℕ). test (slot_at t n) ≡ false) i m a h
      (λ c. lowest_nothing (i + 1) k (sym (lowest_later test t i k h) ∙ e) m c (omega arith)))

  pub lowest_none : (i k : ℕ) → ((m : ℕ) → i ≤ m → m < i + k → test (slot_at t m) ≡ false) → lowest test t i k ≡ None
  unfolding lowest
  lowest_none i zero h = refl
  lowest_none i (suc k) h =
      lowest_later test t i k (h i (omega arith) (omega arith)) ∙ lowest_none (i + 1) k (λ m a b. h m (omega arith) (omega arith))

-- a used slot with this address
pub has_used : (a s : List ℕ) → has_address a s ≡ true → marked s ≡ true
unfolding has_address
has_used a s h = and_left (marked s) (same_octets (address_of s) a) h

pub has_address_lem : (a s : List ℕ) → has_address a s ≡ true → address_of s ≡ a
unfolding has_address
has_address_lem a s h = same_true (address_of s) a (and_right (marked s) (same_octets (address_of s) a) h)

module _ (t a : List ℕ) where
  pub found_at : (i : ℕ) → found t a ≡ Some i → (i < slots t) × (has_address a (slot_at t i) ≡ true)
  unfolding found
  found_at i e = let r = lowest_at (has_address a) t 0 (slots t) i e in (omega (arith, r.below), r.passes)

  pub found_used : (i : ℕ) → found t a ≡ Some i → marked (slot_at t i) ≡ true
  found_used i e = has_used a (slot_at t i) (found_at i e).1

  pub found_address : (i : ℕ) → found t a ≡ Some i → address_of (slot_at t i) ≡ a
  found_address i e = has_address_lem a (slot_at t i) (found_at i e).1

  pub found_nothing : found t a ≡ None → (j : ℕ) → j < slots t → has_address a (slot_at t j) ≡ false
  unfolding found
  found_nothing e j l = lowest_nothing (has_address a) t 0 (slots t) e j (omega arith) (omega arith)

module _ (t : List ℕ) where
  pub free_at : (i : ℕ) → lowest_free t ≡ Some i → (i < slots t) × (marked (slot_at t i) ≡ false)
  unfolding lowest_free unused
  free_at i e =
      let r = lowest_at unused t 0 (slots t) i e in
      (omega (arith, r.below), not-true (marked (slot_at t i)) r.passes)
