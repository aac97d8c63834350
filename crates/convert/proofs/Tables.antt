-- A table by its slots (T1).
--     table_long                 how long it is
--     table_at                   each of them
--     table_is, table_same       a table with these slots is this one
--     whole_long, slots_of       the length of whole slots, and back
--     free_long, free_is         the free slot, and that one which is free is this
-- Assumes nothing.
use Prim.Native.Nat.{ℕ, zero, suc, ◌+◌, ◌-◌, ◌*◌, ◌/◌, ◌%◌, ◌<◌, ◌≤◌}
use mathlib.Core.Path.{◌≡◌, refl, sym, ◌∙◌}
use mathlib.Core.Logic.{⊎_elim}
use mathlib.Core.Bool.{true, ◌&&◌}
use borrow.Author.Tests.{eqb-true}
use lib.Dec.{leb, eqb}
use mathlib.Core.List.{List, [], ◌∷◌, ◌++◌}
use native.Mathlib.Omega.{arith}
use lib.ListN.{length, length-replicate, take, drop, length-append, length-drop, take-append-drop}
use lib.Seq.{drop_at, take_all, take-take, length-take-le, take-append-le, drop-append-le}
use Rattle.octets.proofs.Lists.{lt_or_le}
use Rattle.octets.proofs.Tests.{and_left}
use Rattle.octets.proofs.Zeros.{zero_true}
use Rattle.heads.proofs.Parts.{drop_take}
use Rattle.slots.specs.Slot.{slot_length, free_slot, free}
use Rattle.table.specs.Table.{slots, slot_at, whole}
use Rattle.convert.specs.Converting.{table_of}

-- a slot in the front part of a table
in_front_lem : (s t : List ℕ) (j : ℕ) → j * 4392 + 4392 ≤ length s → take 4392 (drop (j * 4392) (s ++ t)) ≡ take 4392 (drop (j * 4392) s)
in_front_lem s t j l =
    rw (drop-append-le (j * 4392) s t (omega arith)) (take-append-le 4392 (drop (j * 4392) s) t (simp length-drop (omega arith)))

take_part : (u : List ℕ) (at n m : ℕ) → at + n ≤ m → take n (drop at (take m u)) ≡ take n (drop at u)
take_part u at n m l = rw (drop_take at m u) (take-take n (m - at) (drop at u) (omega arith))

no_octets : (u : List ℕ) → length u ≡ 0 → u ≡ []
no_octets [] e = refl
no_octets (x ∷ u) e = absurd (omega arith)

module _ (slot : ℕ → List ℕ) where
  pub table_long : (n : ℕ) → ((i : ℕ) → i < n → length (slot i) ≡ slot_length) → length (table_of slot n) ≡ n * 4392
  unfolding table_of
  table_long zero h = refl
  table_long (suc n) h =
      simp length-append (omega (arith, table_long n (λ i l. h i (omega arith)), h n (omega arith)))

  pub table_at : (n : ℕ) → ((i : ℕ) → i < n → length (slot i) ≡ slot_length) → (i : ℕ) → i < n → slot_at (table_of slot n) i ≡ slot i
  unfolding table_of slot_at
  table_at zero h i l = absurd (omega arith)
  table_at (suc n) h i l =
      let k : length (table_of slot n) ≡ n * 4392 = table_long n (λ j m. h j (omega arith)) in
      ⊎_elim
      (λ (m : i < n). in_front_lem (table_of slot n) (slot n) i (omega (arith, k)) ∙ table_at n (λ j m. h j (omega arith)) i m)
      (λ (m : n ≤ i).
      let e : i ≡ n = omega arith in
      rw (e, drop_at (table_of slot n) (slot n) (n * 4392) k) (take_all 4392 (slot n) (omega (arith, h n (omega arith)))))
      (lt_or_le i n)

  -- a table that has these slots, and no octet more
  pub table_is : (n : ℕ) (u : List ℕ) → length u ≡ n * 4392 → ((i : ℕ) → i < n → slot_at u i ≡ slot i) → u ≡ table_of slot n
  unfolding table_of slot_at
  table_is zero u l h = no_octets u l
  table_is (suc n) u l h =
      let front : take (n * 4392) u ≡ table_of slot n =
      table_is n (take (n * 4392) u) (length-take-le (n * 4392) u (omega arith))
      (λ i m. take_part u (i * 4392) 4392 (n * 4392) (omega arith) ∙ h i (omega arith)) in
      let last : drop (n * 4392) u ≡ slot n = sym (take_all 4392 (drop (n * 4392) u) (simp length-drop (omega arith))) ∙ h n (omega arith) in
      sym (take-append-drop (n * 4392) u) ∙ rw (front, last)

-- two rules for slots that agree
pub table_same : (f g : ℕ → List ℕ) (n : ℕ) → ((i : ℕ) → i < n → f i ≡ g i) → table_of f n ≡ table_of g n
unfolding table_of
table_same f g zero h = refl
table_same f g (suc n) h = rw (table_same f g n (λ i l. h i (omega arith)), h n (omega arith))

-- a table of whole slots is made of its own
pub whole_long : (t : List ℕ) → whole t ≡ true → length t ≡ slots t * 4392
unfolding whole slots
whole_long t w =
    let e : length t % 4392 ≡ 0 = eqb-true (length t % 4392) 0
    (and_left (eqb (length t % 4392) 0) (leb 1 (length t / 4392)) (and_left (eqb (length t % 4392) 0 && leb 1 (length t / 4392)) (leb (length t / 4392) 256) w)) in
    omega arith

pub slots_of : (u : List ℕ) (n : ℕ) → length u ≡ n * 4392 → slots u ≡ n
unfolding slots
slots_of u n l = omega arith

pub free_long : length free_slot ≡ slot_length
free_long = length-replicate {A = ℕ} 4392 0

pub free_is : (s : List ℕ) → length s ≡ slot_length → free s ≡ true → s ≡ free_slot
unfolding free
free_is s l z = zero_true s z ∙ rw l
