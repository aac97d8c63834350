-- The lowest slot that passes a test, and how many slots do.
--     by_found                   an answer is a place or nothing
--     lowest_is                  the slot that passes where no lower one does
--     lowest_same, many_alike    two tables on whose slots the test agrees
--     many_fewer                 two where it agrees but for a slot that passes in the first only
--     some_free                  where a slot is free there is a lowest one
--     free_most                  no more slots are free than there are
-- Assumes nothing.
use Rattle.std.specs.Prelude.{Option, Some, None}
use Prim.Native.Nat.{ℕ, suc, zero, ◌+◌, ◌<◌, ◌≤◌}
use mathlib.Core.Path.{◌≡◌, refl, sym, ◌∙◌}
use mathlib.Core.Logic.{⊎_elim}
use mathlib.Core.Bool.{Bool, true, false}
use mathlib.Core.List.{List}
use native.Mathlib.Omega.{arith}
use Rattle.octets.proofs.Lists.{lt_or_le}
use Rattle.octets.proofs.Tests.{by_test}
use Rattle.table.specs.Table.{slots, slot_at, unused, lowest, how_many, lowest_free, free_count, is_at}
use Rattle.table.proofs.Scanning.{lowest_here, lowest_later, many_more, many_same}

pub by_found : {P : Type 0} (f : Option ℕ) → ((i : ℕ) → f ≡ Some i → P) → (f ≡ None → P) → P
by_found (Some i) h k = h i refl
by_found None h k = k refl

module _ (test : List ℕ → Bool) (t : List ℕ) where
  pub lowest_is : (i k j : ℕ) → i ≤ j → j < i + k → test (slot_at t j) ≡ true → ((m : ℕ) → i ≤ m → m < j → test (slot_at t m) ≡ false)
      → lowest test t i k ≡ Some j
  lowest_is i zero j a b p f = absurd (omega arith)
  lowest_is i (suc k) j a b p f =
      ⊎_elim (λ (l : i < j). lowest_later test t i k (f i (omega arith) l) ∙ lowest_is (i + 1) k j (omega arith) (omega arith) p (λ m c d. f m (omega arith) d))
      (λ (l : j ≤ i). let q : i ≡ j = omega arith in lowest_here test t i k (rw q p) ∙ rw q)
      (lt_or_le i j)

  -- where none passes there are none that do
  none_many : (i k : ℕ) → lowest test t i k ≡ None → how_many test t i k ≡ 0
  unfolding how_many
  none_many i zero e = refl
  none_many i (suc k) e =
      by_test (test (slot_at t i))
      (λ h.
      let q : Some i ≡ None = sym (lowest_here test t i k h) ∙ e in
      let z : ◌≡◌ {A = ℕ} 0 1 = cc in
      absurd (omega arith))
      (λ h. many_same test t i k h ∙ none_many (i + 1) k (sym (lowest_later test t i k h) ∙ e))

-- two tables, t and u
module _ (test : List ℕ → Bool) (t u : List ℕ) where
  pub lowest_same : (i k : ℕ) → ((m : ℕ) → i ≤ m → m < i + k → test (slot_at u m) ≡ test (slot_at t m)) → lowest test u i k ≡ lowest test t i k
  unfolding lowest
  lowest_same i zero h = refl
  lowest_same i (suc k) h =
      by_test (test (slot_at t i))
      (λ e. lowest_here test u i k (h i (omega arith) (omega arith) ∙ e) ∙ sym (lowest_here test t i k e))
      (λ e.
      lowest_later test u i k (h i (omega arith) (omega arith) ∙ e)
      ∙ lowest_same (i + 1) k (λ m a b. h m (omega arith) (omega arith))
      ∙ sym (lowest_later test t i k e))

  pub many_alike : (i k : ℕ) → ((m : ℕ) → i ≤ m → m < i + k → test (slot_at u m) ≡ test (slot_at t m)) → how_many test u i k ≡ how_many test t i k
  unfolding how_many
  many_alike i zero h = refl
  many_alike i (suc k) h =
      let rest : how_many test u (i + 1) k ≡ how_many test t (i + 1) k = many_alike (i + 1) k (λ m a b. h m (omega arith) (omega arith)) in
      by_test (test (slot_at t i))
      (λ e. many_more test u i k (h i (omega arith) (omega arith) ∙ e) ∙ rw rest (sym (many_more test t i k e)))
      (λ e. many_same test u i k (h i (omega arith) (omega arith) ∙ e) ∙ rest ∙ sym (many_same test t i k e))

  pub many_fewer : (i k j : ℕ) → i ≤ j → j < i + k → test (slot_at t j) ≡ true → test (slot_at u j) ≡ false
      → ((m : ℕ) → (m ≡ j → ⊥) → test (slot_at u m) ≡ test (slot_at t m)) → how_many test t i k ≡ 1 + how_many test u i k
  many_fewer i zero j a b p q h = absurd (omega arith)
  many_fewer i (suc k) j a b p q h =
      ⊎_elim
      (λ (l : i < j).
      let rest : how_many test t (i + 1) k ≡ 1 + how_many test u (i + 1) k = many_fewer (i + 1) k j (omega arith) (omega arith) p q h in
      let same : test (slot_at u i) ≡ test (slot_at t i) = h i (λ z. omega arith) in
      by_test (test (slot_at t i))
      (λ e. omega (arith, rest, many_more test t i k e, many_more test u i k (same ∙ e)))
      (λ e. omega (arith, rest, many_same test t i k e, many_same test u i k (same ∙ e))))
      (λ (l : j ≤ i).
      let z : i ≡ j = omega arith in
      let rest : how_many test u (i + 1) k ≡ how_many test t (i + 1) k = many_alike (i + 1) k (λ m c d. h m (λ y. omega arith)) in
      omega (arith, rest, many_more test t i k (rw z p), many_same test u i k (rw z q)))
      (lt_or_le i j)

pub some_free : (t : List ℕ) → 0 < free_count t → is_at (lowest_free t) ≡ true
unfolding free_count lowest_free
some_free t h =
    by_found (lowest unused t 0 (slots t)) (λ i e. rw e) (λ e. absurd (omega (arith, none_many unused t 0 (slots t) e)))

many_most : (test : List ℕ → Bool) (t : List ℕ) (i k : ℕ) → how_many test t i k ≤ k
unfolding how_many
many_most test t i zero = omega arith
many_most test t i (suc k) =
    let ih : how_many test t (i + 1) k ≤ k = many_most test t (i + 1) k in
    by_test (test (slot_at t i))
    (λ e. rw (how_many, e) (omega (arith, ih)))
    (λ e. rw (how_many, e) (omega (arith, ih)))

pub free_most : (t : List ℕ) → free_count t ≤ slots t
unfolding free_count
free_most t = many_most unused t 0 (slots t)
