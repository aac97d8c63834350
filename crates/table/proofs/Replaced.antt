-- A table with one slot replaced: where addresses stand then, what they have, and how many slots are free.
--     written_over, written_back        a slot written twice, and one written over itself
--     written_octets                    octets stay octets
--     found_written, found_kept         the address that was written, and any other
--     entry_written, entry_kept         their entries
--     free_fewer, free_same             a free slot taken, and a used one written again
-- Assumes nothing.
use Prim.Native.Nat.{ℕ, ◌+◌, ◌*◌, ◌<◌}
use mathlib.Core.Path.{◌≡◌, sym, ◌∙◌}
use mathlib.Core.Bool.{true, false, false≢true}
use Rattle.std.specs.Prelude.{Some}
use mathlib.Core.List.{List}
use native.Mathlib.Omega.{arith}
use borrow.Author.Tests.{eqb-true, eqb-false}
use lib.Dec.{eqb}
use lib.ListN.{length}
use Rattle.octets.specs.Octets.{AllOctets, same_octets}
use Rattle.octets.proofs.Comparing.{same_refl}
use Rattle.octets.proofs.Joined.{put_octets}
use Rattle.octets.proofs.Tests.{by_test}
use Rattle.slots.specs.declared.Spelling.TheVariants.{Canonical}
use Rattle.slots.specs.Slot.{slot_length, marked, sound}
use Rattle.heads.specs.Entry.{Entry}
use Rattle.slots.specs.Entry.{slot_of, Good}
use Rattle.heads.proofs.Parts.{put_again, put_back}
use Rattle.slots.proofs.Sounds.{unmarked_not_sound}
use Rattle.slots.proofs.Made.{slot_long, slot_sound, address_kept, entry_back}
use Rattle.table.specs.Table.{slots, slot_at, with_slot, unused, has_address, found, free_count}
use Rattle.table.specs.Entries.{entry_in}
use Rattle.table.proofs.Slots.{room, slots_kept, slot_same, slot_other}
use Rattle.table.proofs.Lowest.{by_found, lowest_is, lowest_same, many_alike, many_fewer}
use Rattle.table.proofs.Finding.{found_at}
use Rattle.table.proofs.Entries.{entry_at, entry_nothing}

module _ (t : List ℕ) (i : ℕ) (l : i < slots t) where
  pub written_over : (s w : List ℕ) → length s ≡ slot_length → length w ≡ slot_length → with_slot (with_slot t i s) i w ≡ with_slot t i w
  unfolding with_slot
  written_over s w h k = put_again t s w (i * 4392) (h ∙ sym k) (omega (arith, room t i l))

  pub written_back : with_slot t i (slot_at t i) ≡ t
  unfolding with_slot slot_at
  written_back = put_back t (i * 4392) 4392 (room t i l)

pub written_octets : (t s : List ℕ) (i : ℕ) → AllOctets t → AllOctets s → AllOctets (with_slot t i s)
unfolding with_slot
written_octets t s i o p = put_octets t s (i * 4392) o p

-- the slot of a good entry has the mark and the address
sound_marked : (s : List ℕ) → sound s ≡ true → marked s ≡ true
sound_marked s e = by_test (marked s) (λ h. h) (λ h. absurd (false≢true (sym (unmarked_not_sound Canonical s h) ∙ e)))

module _ (e : Entry) (g : Good e) where
  pub made_marked : marked (slot_of e) ≡ true
  made_marked = sound_marked (slot_of e) (slot_sound e g)

  pub made_has : has_address e.address (slot_of e) ≡ true
  unfolding has_address
  made_has = rw (made_marked, address_kept e g) (same_refl e.address)

  pub made_has_not : (b : List ℕ) → same_octets e.address b ≡ false → has_address b (slot_of e) ≡ false
  unfolding has_address
  made_has_not b n = rw (made_marked, address_kept e g, n)

-- a good entry written to slot i
module _ (t : List ℕ) (i : ℕ) (l : i < slots t) (e : Entry) (g : Good e) where
  here : slot_at (with_slot t i (slot_of e)) i ≡ slot_of e
  here = slot_same t (slot_of e) i l (slot_long e g)

  there : (j : ℕ) → (j ≡ i → ⊥) → slot_at (with_slot t i (slot_of e)) j ≡ slot_at t j
  there j d = slot_other t (slot_of e) i l (slot_long e g) j d

  kept : slots (with_slot t i (slot_of e)) ≡ slots t
  kept = slots_kept t (slot_of e) i l (slot_long e g)

  pub found_written : ((j : ℕ) → j < slots t → (j ≡ i → ⊥) → has_address e.address (slot_at t j) ≡ false) → found (with_slot t i (slot_of e)) e.address ≡ Some i
  unfolding found
  found_written n =
      rw kept
      (lowest_is (has_address e.address) (with_slot t i (slot_of e)) 0 (slots t) i (omega arith) (omega arith) (rw here (made_has e g))
      (λ m a b. rw (there m (λ q. omega arith)) (n m (omega arith) (λ q. omega arith))))

  pub entry_written : ((j : ℕ) → j < slots t → (j ≡ i → ⊥) → has_address e.address (slot_at t j) ≡ false) → entry_in (with_slot t i (slot_of e)) e.address ≡ Some e
  entry_written n = entry_at (with_slot t i (slot_of e)) e.address i (found_written n) ∙ rw (here, entry_back e g)

  -- an address that neither the entry has nor what stood there before
  module _ (b : List ℕ) (n : same_octets e.address b ≡ false) (f : has_address b (slot_at t i) ≡ false) where
    pub found_kept : found (with_slot t i (slot_of e)) b ≡ found t b
    unfolding found
    found_kept =
        rw kept
        (lowest_same (has_address b) t (with_slot t i (slot_of e)) 0 (slots t)
        (λ m a c.
        by_test (eqb m i)
        (λ h. let q : m ≡ i = eqb-true m i h in rw (q, here, f) (made_has_not e g b n))
        (λ h. rw (there m (eqb-false m i h)))))

    pub entry_kept : entry_in (with_slot t i (slot_of e)) b ≡ entry_in t b
    entry_kept =
        by_found (found t b)
        (λ j h.
        let d : j ≡ i → ⊥ = λ q. false≢true (sym (rw (← q) at f) ∙ (found_at t b j h).1) in
        entry_at (with_slot t i (slot_of e)) b j (found_kept ∙ h) ∙ rw (there j d) (sym (entry_at t b j h)))
        (λ h. entry_nothing (with_slot t i (slot_of e)) b (found_kept ∙ h) ∙ sym (entry_nothing t b h))

  used_now : unused (slot_at (with_slot t i (slot_of e)) i) ≡ false
  unfolding unused
  used_now = rw (here, made_marked e g)

  pub free_fewer : marked (slot_at t i) ≡ false → free_count t ≡ 1 + free_count (with_slot t i (slot_of e))
  unfolding free_count unused
  free_fewer m =
      rw kept
      (many_fewer unused t (with_slot t i (slot_of e)) 0 (slots t) i (omega arith) (omega arith) (rw m) used_now (λ j d. rw (there j d)))

  pub free_same : marked (slot_at t i) ≡ true → free_count (with_slot t i (slot_of e)) ≡ free_count t
  unfolding free_count unused
  free_same m =
      rw kept
      (many_alike unused t (with_slot t i (slot_of e)) 0 (slots t)
      (λ j a b. by_test (eqb j i) (λ h. let q : j ≡ i = eqb-true j i h in rw (q, m) used_now) (λ h. rw (there j (eqb-false j i h)))))
