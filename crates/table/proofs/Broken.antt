-- R1 and R2, as facts: what the answer of the check says of the table, and back.
--     by_check                           one of the three answers of the check
--     checked_broken, broken_checked     the check answers the slot i exactly where it is the lowest broken one
--     checked_out                        and the length only where it is not that of 1 to 256 whole slots
-- Assumes nothing.
use Prim.Native.Nat.{ℕ, suc, zero, ◌+◌, ◌<◌, ◌≤◌}
use mathlib.Core.Path.{◌≡◌, refl, sym, ap, ◌∙◌}
use mathlib.Core.Logic.{⊎_elim}
use mathlib.Core.Bool.{true, false}
use mathlib.Core.List.{List}
use native.Mathlib.Omega.{arith}
use Rattle.octets.proofs.Lists.{lt_or_le}
use Rattle.octets.proofs.Tests.{by_test}
use Rattle.slots.specs.declared.Spelling.{Spelling}
use Rattle.table.specs.Table.{slots, right_by, whole, judged_by, checked_by}
use Rattle.table.specs.Slotwise.{BrokenBy}
use Rattle.table.specs.declared.Checked.{Checked}
use Rattle.table.specs.declared.Checked.TheVariants.{Sound, Length, Slot}
use Rattle.table.proofs.Judging.{judged_on, judged_here, checked_slots, checked_length}

pub by_check : {P : Type 0} (c : Checked) → (c ≡ Sound → P) → (c ≡ Length → P) → ((i : ℕ) → c ≡ Slot i → P) → P
by_check Sound a b d = a refl
by_check Length a b d = b refl
by_check (Slot i) a b d = d i refl

-- the first of the k slots from slot i on that is not right
record First (how : Spelling) (t : List ℕ) (i k j : ℕ) : Type 0 where
  from : i ≤ j
  below : j < i + k
  wrong : right_by how t j ≡ false
  before : (m : ℕ) → i ≤ m → m < j → right_by how t m ≡ true

module _ (how : Spelling) (t : List ℕ) where
  judged_first : (i k j : ℕ) → judged_by how t i k ≡ Slot j → First how t i k j
  unfolding judged_by
  judged_first i zero j e = let z : ◌≡◌ {A = ℕ} 0 1 = cc in absurd (omega arith)
  judged_first i (suc k) j e =
      by_test (right_by how t i)
      (λ h.
      let r : First how t (i + 1) k j = judged_first (i + 1) k j (sym (judged_on how t i k h) ∙ e) in
      record {
        from = omega (arith, r.from);
        below = omega (arith, r.below);
        wrong = r.wrong;
        before = λ m a b.
            ⊎_elim (λ (l : i < m). r.before m (omega arith) b) (λ (l : m ≤ i). let q : i ≡ m = omega arith in rw q at h) (lt_or_le i m);
      })
      (λ h.
      let q : Slot i ≡ Slot j = sym (judged_here how t i k h) ∙ e in
      let p : i ≡ j = cc in
      record { from = omega arith; below = omega arith; wrong = rw p at h; before = λ m a b. absurd (omega arith) })

  first_judged : (i k j : ℕ) → First how t i k j → judged_by how t i k ≡ Slot j
  first_judged i zero j f = absurd (omega (arith, f.from, f.below))
  first_judged i (suc k) j f =
      ⊎_elim
      (λ (l : i < j).
      judged_on how t i k (f.before i (omega arith) l)
      ∙ first_judged (i + 1) k j
      (record { from = omega arith; below = omega (arith, f.below); wrong = f.wrong; before = λ m a b. f.before m (omega arith) b }))
      (λ (l : j ≤ i).
      let p : i ≡ j = omega (arith, f.from) in
      judged_here how t i k (rw p f.wrong) ∙ ap Slot p)
      (lt_or_le i j)

  judged_never : (i k : ℕ) → judged_by how t i k ≡ Length → ⊥
  unfolding judged_by
  judged_never i zero e = let z : ◌≡◌ {A = ℕ} 0 1 = cc in omega arith
  judged_never i (suc k) e =
      by_test (right_by how t i) (λ h. judged_never (i + 1) k (sym (judged_on how t i k h) ∙ e))
      (λ h. let q : Slot i ≡ Length = sym (judged_here how t i k h) ∙ e in let z : ◌≡◌ {A = ℕ} 0 1 = cc in omega arith)

  pub checked_broken : (i : ℕ) → checked_by how t ≡ Slot i → BrokenBy how t i
  checked_broken i e =
      by_test (whole t)
      (λ w.
      let f : First how t 0 (slots t) i = judged_first 0 (slots t) i (sym (checked_slots how t w) ∙ e) in
      record { whole_slots = w; within = omega (arith, f.below); not_right = f.wrong; lower = λ j l. f.before j (omega arith) l })
      (λ w. let z : ◌≡◌ {A = ℕ} 0 1 = cc (checked_length how t w) in absurd (omega arith))

  pub broken_checked : (i : ℕ) → BrokenBy how t i → checked_by how t ≡ Slot i
  broken_checked i b =
      checked_slots how t b.whole_slots
      ∙ first_judged 0 (slots t) i
      (record { from = omega arith; below = omega (arith, b.within); wrong = b.not_right; before = λ m a l. b.lower m l })

  pub checked_out : checked_by how t ≡ Length → whole t ≡ false
  checked_out e = by_test (whole t) (λ w. absurd (judged_never 0 (slots t) (sym (checked_slots how t w) ∙ e))) (λ w. w)
