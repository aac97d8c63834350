-- A sound table, and that writing a good entry keeps it sound (C4).
--     table_by, by_table      what the check tells, and back
--     table_sound, sound_table    by the rule in force
--     used_sound, unused_free     its used slots are sound and its other slots free
--     alone                   no two slots have one address (T8.3, T15)
--     others_not              where an address stands, no other slot has it
--     write_sound             a good entry written where no other slot has its address
--     write_new, write_own    the two places of that kind: a slot when the address is new, and the address's own
-- Assumes nothing.
use Rattle.std.specs.Prelude.{Option, Some, None}
use Prim.Native.Nat.{ℕ, suc, zero, ◌+◌, ◌<◌, ◌≤◌}
use mathlib.Core.Path.{◌≡◌, refl, sym, ◌∙◌}
use mathlib.Core.Logic.{⊎_elim}
use mathlib.Core.Bool.{Bool, true, false, not, ◌&&◌, ◌||◌, and-false, false≢true}
use mathlib.Core.List.{List}
use native.Mathlib.Omega.{arith}
use borrow.Author.Tests.{eqb-true, eqb-false}
use lib.Dec.{eqb}
use lib.ListN.{length}
use Rattle.octets.specs.Octets.{same_octets}
use Rattle.octets.proofs.Comparing.{same_true, same_refl}
use Rattle.octets.proofs.Lists.{lt_or_le}
use Rattle.octets.proofs.Tests.{by_test}
use Rattle.slots.specs.declared.Spelling.{Spelling}
use Rattle.slots.specs.declared.Spelling.TheVariants.{Canonical}
use Rattle.slots.specs.Slot.{slot_length, marked, free, sound_by, sound, address_of}
use Rattle.heads.specs.Entry.{Entry}
use Rattle.slots.specs.Entry.{slot_of, Good}
use Rattle.slots.proofs.Sounds.{marked_not_free, unmarked_not_sound}
use Rattle.slots.proofs.Made.{slot_long, slot_sound, address_kept}
use Rattle.table.specs.Table.{slots, slot_at, with_slot, has_address, lowest, is_at, in_lower, right_by, right, whole, judged_by, checked_by, checked, found}
use Rattle.table.specs.Slotwise.{TableBy, SoundTable}
use Rattle.table.specs.declared.Checked.TheVariants.{Sound, Length, Slot}
use Rattle.table.proofs.Slots.{length_kept, slots_kept, slot_same, slot_other}
use Rattle.table.proofs.Judging.{judged_on, judged_here, checked_slots, checked_length}
use Rattle.table.proofs.Finding.{lowest_nothing, lowest_none, found_at, found_nothing, has_used, has_address_lem}

module _ (how : Spelling) (t : List ℕ) where
  judged_each : (i k : ℕ) → judged_by how t i k ≡ Sound → (m : ℕ) → i ≤ m → m < i + k → right_by how t m ≡ true
  unfolding judged_by
  judged_each i zero e m a b = absurd (omega arith)
  judged_each i (suc k) e m a b =
      by_test (right_by how t i)
      (λ h.
      ⊎_elim (λ (l : i < m). judged_each (i + 1) k (sym (judged_on how t i k h) ∙ e) m (omega arith) (omega arith))
      (λ (l : m ≤ i). let q : i ≡ m = omega arith in rw q at h)
      (lt_or_le i m))
      (λ h.
      let q : Slot i ≡ Sound = sym (judged_here how t i k h) ∙ e in
      let z : ◌≡◌ {A = ℕ} 0 1 = cc in
      absurd (omega arith))

  judged_all : (i k : ℕ) → ((m : ℕ) → i ≤ m → m < i + k → right_by how t m ≡ true) → judged_by how t i k ≡ Sound
  unfolding judged_by
  judged_all i zero h = refl
  judged_all i (suc k) h = judged_on how t i k (h i (omega arith) (omega arith)) ∙ judged_all (i + 1) k (λ m a b. h m (omega arith) (omega arith))

  pub table_by : checked_by how t ≡ Sound → TableBy how t
  table_by e =
      by_test (whole t)
      (λ w.
      record {
        whole_slots = w;
        each = λ i l. judged_each 0 (slots t) (sym (checked_slots how t w) ∙ e) i (omega arith) (omega arith);
      })
      (λ w.
      let q : Length ≡ Sound = sym (checked_length how t w) ∙ e in
      let z : ◌≡◌ {A = ℕ} 0 1 = cc in
      absurd (omega arith))

  pub by_table : TableBy how t → checked_by how t ≡ Sound
  by_table s = checked_slots how t s.whole_slots ∙ judged_all 0 (slots t) (λ m a b. s.each m (omega arith))

module _ (t : List ℕ) where
  pub table_sound : checked t ≡ Sound → SoundTable t
  table_sound e = table_by Canonical t e

  pub sound_table : SoundTable t → checked t ≡ Sound
  sound_table s = by_table Canonical t s

-- a slot that is right and not free is sound, with its address in no lower slot; and the way back
not_free : (f s l : Bool) → (f || s && not l) ≡ true → f ≡ false → (s ≡ true) × (l ≡ false)
not_free true s l h e = absurd (false≢true (sym e))
not_free false true true h e = absurd (false≢true h)
not_free false true false h e = (refl, refl)
not_free false false l h e = absurd (false≢true h)

free_or : (f s l : Bool) → (f || s && not l) ≡ true → s ≡ false → f ≡ true
free_or true s l h e = refl
free_or false true l h e = absurd (false≢true (sym e))
free_or false false l h e = absurd (false≢true h)

pub or_sound : (f s l : Bool) → s ≡ true → l ≡ false → (f || s && not l) ≡ true
or_sound true s l p q = refl
or_sound false s l p q = rw (p, q)

-- an answer that is no index
not_at : (f : Option ℕ) → is_at f ≡ false → f ≡ None
not_at (Some i) e = absurd (false≢true (sym e))
not_at None e = refl

module _ (t : List ℕ) where
  -- the address of slot i stands in no lower slot
  pub lower_not : (i : ℕ) → in_lower t i ≡ false → (m : ℕ) → m < i → has_address (address_of (slot_at t i)) (slot_at t m) ≡ false
  unfolding in_lower
  lower_not i e m l =
      lowest_nothing (has_address (address_of (slot_at t i))) t 0 i (not_at (lowest (has_address (address_of (slot_at t i))) t 0 i) e) m (omega arith) (omega arith)

  pub not_lower : (i : ℕ) → ((m : ℕ) → m < i → has_address (address_of (slot_at t i)) (slot_at t m) ≡ false) → in_lower t i ≡ false
  unfolding in_lower
  not_lower i h = rw (lowest_none (has_address (address_of (slot_at t i))) t 0 i (λ m a b. h m (omega arith)))

module _ {how : Spelling} (t : List ℕ) (s : TableBy how t) where
  pub used_sound : (i : ℕ) → i < slots t → marked (slot_at t i) ≡ true → (sound_by how (slot_at t i) ≡ true) × (in_lower t i ≡ false)
  unfolding right_by
  used_sound i l m = not_free (free (slot_at t i)) (sound_by how (slot_at t i)) (in_lower t i) (s.each i l) (marked_not_free (slot_at t i) m)

  pub unused_free : (i : ℕ) → i < slots t → marked (slot_at t i) ≡ false → free (slot_at t i) ≡ true
  unfolding right_by
  unused_free i l m = free_or (free (slot_at t i)) (sound_by how (slot_at t i)) (in_lower t i) (s.each i l) (unmarked_not_sound how (slot_at t i) m)

module _ (t : List ℕ) (s : SoundTable t) where
  -- the lower of two slots that have one address forbids the higher one
  apart : (a : List ℕ) (i j : ℕ) → i < j → j < slots t → has_address a (slot_at t i) ≡ true → has_address a (slot_at t j) ≡ true → ⊥
  apart a i j l k p q =
      let n : has_address (address_of (slot_at t j)) (slot_at t i) ≡ false = lower_not t j (used_sound t s j k (has_used a (slot_at t j) q)).1 i l in
      let e : has_address a (slot_at t i) ≡ false = rw (has_address_lem a (slot_at t j) q) at n in
      false≢true (sym e ∙ p)

  pub alone : (a : List ℕ) (i j : ℕ) → i < slots t → j < slots t → has_address a (slot_at t i) ≡ true → has_address a (slot_at t j) ≡ true → i ≡ j
  alone a i j l k p q =
      ⊎_elim (λ (h : i < j). absurd (apart a i j h k p q))
      (λ (h : j ≤ i). ⊎_elim (λ (g : j < i). absurd (apart a j i g l q p)) (λ (g : i ≤ j). omega arith) (lt_or_le j i))
      (lt_or_le i j)

  pub others_not : (a : List ℕ) (i : ℕ) → found t a ≡ Some i → (j : ℕ) → j < slots t → (j ≡ i → ⊥) → has_address a (slot_at t j) ≡ false
  others_not a i e j l n =
      by_test (has_address a (slot_at t j)) (λ h. absurd (n (alone a j i l (found_at t a i e).0 h (found_at t a i e).1))) (λ h. h)

-- two lists that differ, either way round
same_not : (a b : List ℕ) → same_octets a b ≡ false → same_octets b a ≡ false
same_not a b e =
    by_test (same_octets b a)
    (λ h.
    let q : b ≡ a = same_true b a h in
    absurd (false≢true (sym (rw q at e) ∙ same_refl a)))
    (λ h. h)

module _ (t : List ℕ) (s : SoundTable t) (e : Entry) (g : Good e) (i : ℕ) (l : i < slots t)
    (n : (j : ℕ) → j < slots t → (j ≡ i → ⊥) → has_address e.address (slot_at t j) ≡ false) where
  long : length (slot_of e) ≡ slot_length
  long = slot_long e g

  here : slot_at (with_slot t i (slot_of e)) i ≡ slot_of e
  here = slot_same t (slot_of e) i l long

  there : (j : ℕ) → (j ≡ i → ⊥) → slot_at (with_slot t i (slot_of e)) j ≡ slot_at t j
  there j d = slot_other t (slot_of e) i l long j d

  -- the new slot has an address that a used slot has not
  new_not : (j : ℕ) → j < slots t → (j ≡ i → ⊥) → marked (slot_at t j) ≡ true → has_address (address_of (slot_at t j)) (slot_of e) ≡ false
  unfolding has_address
  new_not j k d m =
      let h : (marked (slot_at t j) && same_octets (address_of (slot_at t j)) e.address) ≡ false = n j k d in
      let f : same_octets (address_of (slot_at t j)) e.address ≡ false = rw m at h in
      rw (address_kept e g, same_not (address_of (slot_at t j)) e.address f) (and-false (marked (slot_of e)))

  right_here : right (with_slot t i (slot_of e)) i ≡ true
  unfolding right_by
  right_here =
      or_sound (free (slot_at (with_slot t i (slot_of e)) i)) (sound (slot_at (with_slot t i (slot_of e)) i)) (in_lower (with_slot t i (slot_of e)) i)
      (rw here (slot_sound e g))
      (not_lower (with_slot t i (slot_of e)) i
      (λ m b. rw (here, there m (λ q. omega arith), address_kept e g) (n m (omega arith) (λ q. omega arith))))

  lower_there : (j : ℕ) → j < slots t → (j ≡ i → ⊥) → marked (slot_at t j) ≡ true → in_lower t j ≡ false → in_lower (with_slot t i (slot_of e)) j ≡ false
  lower_there j k d m f =
      not_lower (with_slot t i (slot_of e)) j
      (λ o b.
      rw (there j d)
      (by_test (eqb o i)
      (λ h. let q : o ≡ i = eqb-true o i h in rw (q, here) (new_not j k d m))
      (λ h. rw (there o (eqb-false o i h)) (lower_not t j f o b))))

  right_there : (j : ℕ) → j < slots t → (j ≡ i → ⊥) → right (with_slot t i (slot_of e)) j ≡ true
  unfolding right_by
  right_there j k d =
      by_test (marked (slot_at t j))
      (λ m.
      or_sound (free (slot_at (with_slot t i (slot_of e)) j)) (sound (slot_at (with_slot t i (slot_of e)) j)) (in_lower (with_slot t i (slot_of e)) j)
      (rw (there j d) (used_sound t s j k m).0)
      (lower_there j k d m (used_sound t s j k m).1))
      (λ m. rw (there j d, unused_free t s j k m))

  whole_kept : whole (with_slot t i (slot_of e)) ≡ true
  unfolding whole
  whole_kept = rw (length_kept t (slot_of e) i l long, slots_kept t (slot_of e) i l long) s.whole_slots

  pub write_sound : checked (with_slot t i (slot_of e)) ≡ Sound
  write_sound =
      sound_table (with_slot t i (slot_of e))
      (record {
        whole_slots = whole_kept;
        each = λ j k.
            let c : j < slots t = rw (slots_kept t (slot_of e) i l long) at k in
            by_test (eqb j i) (λ h. let q : j ≡ i = eqb-true j i h in rw q right_here) (λ h. right_there j c (eqb-false j i h));
      })

module _ (t : List ℕ) (s : SoundTable t) (e : Entry) (g : Good e) (i : ℕ) where
  pub write_new : i < slots t → found t e.address ≡ None → checked (with_slot t i (slot_of e)) ≡ Sound
  write_new l f = write_sound t s e g i l (λ j k d. found_nothing t e.address f j k)

  pub write_own : found t e.address ≡ Some i → checked (with_slot t i (slot_of e)) ≡ Sound
  write_own f = write_sound t s e g i (found_at t e.address i f).0 (λ j k d. others_not t s e.address i f j k d)
