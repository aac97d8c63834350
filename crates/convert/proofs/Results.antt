-- What the conversion of a table comes to (T17 to T19, C19).
--     converted_long, converted_octets    the table has the length that it had, and octets
--     converted_found                     an address stands in the lowest slot that had it for its form
--     converted_entry                     with the entries of that form, merged in slot order
--     converted_sound                     the table is sound
--     was_sound                           a sound table was sound by the old rule
--     sound_stays                         and stays as it is
--     converted_twice                     so converting twice is converting once
-- Assumes nothing.
use Prim.Native.Nat.{ℕ, suc, zero, ◌<◌}
use mathlib.Core.Path.{◌≡◌, refl, sym, ap, ◌∙◌}
use mathlib.Core.Bool.{Bool, true, false, not, ◌&&◌, ◌||◌, false≢true}
use mathlib.Core.List.{List}
use Rattle.std.specs.Prelude.{Some}
use native.Mathlib.Omega.{arith}
use lib.ListN.{length}
use Rattle.octets.specs.Octets.{AllOctets}
use Rattle.octets.proofs.Comparing.{same_refl}
use Rattle.octets.proofs.Joined.{append_octets, replicate_octets}
use Rattle.octets.proofs.Tests.{by_test}
use Rattle.octets.proofs.Zeros.{zero_replicate}
use Rattle.address.proofs.Spelling.{canonical_same}
use Rattle.heads.specs.Entry.{renamed}
use Rattle.slots.specs.Slot.{slot_length, free_slot, free, address_of, marked, spelled, sound_by}
use Rattle.slots.specs.Entry.{entry_of, slot_of}
use Rattle.slots.specs.declared.Spelling.TheVariants.{Canonical, Ascii}
use Rattle.slots.proofs.Sounds.{sound_parts, sound_was}
use Rattle.slots.proofs.Entries.{slot_back}
use Rattle.slots.proofs.Made.{slot_sound, slot_octets, address_kept, entry_back}
use Rattle.table.specs.Table.{slots, slot_at, has_address, lowest, in_lower, right_by, whole, checked_by, checked, found}
use Rattle.table.specs.Entries.{entry_in}
use Rattle.table.specs.Slotwise.{TableBy, SoundTable}
use Rattle.table.specs.declared.Checked.TheVariants.{Sound}
use Rattle.table.proofs.Slots as slotwise
use Rattle.table.proofs.Lowest.{by_found}
use Rattle.table.proofs.Finding.{lowest_at, lowest_nothing}
use Rattle.table.proofs.Keeping.{table_by, by_table, table_sound, sound_table, used_sound, unused_free, or_sound, not_lower, alone}
use Rattle.table.proofs.Entries.{entry_at, entry_nothing}
use Rattle.convert.specs.Converting.{form_of, has_form, gathered, leads, slot_for, converted_at, table_of, converted}
use Rattle.convert.proofs.Tables.{table_long, table_at, table_is, whole_long, slots_of, free_is}
use Rattle.convert.proofs.Groups.{form_used, form_is, form_has, gathered_none, gathered_only, leads_first, first_leads, unused_follows}
use Rattle.convert.proofs.Places.{Led, led, leads_slot, follows_free, converted_long as slot_converted_long, has_not, first_form, lowest_form}

-- a table that was sound by the old rule
module _ (t : List ℕ) (w : TableBy Ascii t) (o : AllOctets t) where
  each_long : (i : ℕ) → i < slots t → length (converted_at t (slots t) i) ≡ slot_length
  each_long i l = slot_converted_long t w o (slots t) i l (omega arith)

  pub converted_long : length (converted t) ≡ length t
  unfolding converted
  converted_long = table_long (converted_at t (slots t)) (slots t) each_long ∙ sym (whole_long t w.whole_slots)

  pub converted_slots : slots (converted t) ≡ slots t
  converted_slots = slots_of (converted t) (slots t) (converted_long ∙ whole_long t w.whole_slots)

  pub converted_at_lem : (i : ℕ) → i < slots t → slot_at (converted t) i ≡ converted_at t (slots t) i
  unfolding converted
  converted_at_lem i l = table_at (converted_at t (slots t)) (slots t) each_long i l

  each_octets : (i : ℕ) → i < slots t → AllOctets (converted_at t (slots t) i)
  each_octets i l =
      by_test (leads t i)
      (λ h. let x : Led t (slots t) i = led t w o (slots t) i l (omega arith) h in rw x.slot (slot_octets x.entry x.good))
      (λ h. rw (follows_free t (slots t) i h) (replicate_octets 4392 0 (omega arith)))

  pub converted_octets : AllOctets (converted t)
  unfolding converted table_of
  converted_octets = go (slots t) (λ i l. each_octets i l)
    where
      go : (n : ℕ) → ((i : ℕ) → i < n → AllOctets (converted_at t (slots t) i)) → AllOctets (table_of (converted_at t (slots t)) n)
      go zero h = λ i. omega arith
      go (suc n) h =
          append_octets (table_of (converted_at t (slots t)) n) (converted_at t (slots t) n) (go n (λ i l. h i (omega arith))) (h n (omega arith))

  module _ (a : List ℕ) where
    pub converted_found : found (converted t) a ≡ lowest (has_form a) t 0 (slots t)
    unfolding found
    converted_found =
        rw converted_slots (lowest_form t w o (slots t) (slots t) (omega arith) (omega arith) (converted t) a (λ i l. converted_at_lem i l))

    -- the entry of each address is made of those whose form it is, and there are no others
    pub converted_entry : entry_in (converted t) a ≡ gathered a t (slots t)
    converted_entry =
        by_found (lowest (has_form a) t 0 (slots t))
        (λ j q.
        let r = lowest_at (has_form a) t 0 (slots t) j q in
        let l : j < slots t = omega (arith, r.below) in
        let e : form_of (slot_at t j) ≡ a = form_is a (slot_at t j) r.passes in
        let x : Led t (slots t) j =
        led t w o (slots t) j l (omega arith) (first_form t w o (slots t) (slots t) (omega arith) (omega arith) (converted t) a (λ i b. converted_at_lem i b) j q) in
        entry_at (converted t) a j (converted_found ∙ q)
        ∙ ap Some (ap entry_of (converted_at_lem j l ∙ x.slot) ∙ entry_back x.entry x.good)
        ∙ sym x.is
        ∙ ap (λ (b : List ℕ). gathered b t (slots t)) e)
        (λ q.
        entry_nothing (converted t) a (converted_found ∙ q)
        ∙ sym (gathered_none a t (slots t) (λ k l. lowest_nothing (has_form a) t 0 (slots t) q k (omega arith) (omega arith))))

  -- each slot is free, or sound with its address in no lower one
  right_each : (i : ℕ) → i < slots t → right_by Canonical (converted t) i ≡ true
  unfolding right_by free
  right_each i l =
      by_test (leads t i)
      (λ h.
      let x : Led t (slots t) i = led t w o (slots t) i l (omega arith) h in
      let at : slot_at (converted t) i ≡ slot_of x.entry = converted_at_lem i l ∙ x.slot in
      let no : in_lower (converted t) i ≡ false =
      not_lower (converted t) i
      (λ k b.
      rw (at, address_kept x.entry x.good, x.whose, converted_at_lem k (omega arith))
      (has_not t w o (slots t) k (omega arith) (omega arith) (form_of (slot_at t i)) (leads_first t i h k b))) in
      or_sound (free (slot_at (converted t) i)) (sound_by Canonical (slot_at (converted t) i)) (in_lower (converted t) i)
      (rw at (slot_sound x.entry x.good)) no)
      (λ h. rw (converted_at_lem i l, follows_free t (slots t) i h, free_free))
    where
      free_free : free free_slot ≡ true
      free_free = zero_replicate 4392

  whole_kept : whole (converted t) ≡ true
  unfolding whole
  whole_kept = rw (converted_long, converted_slots) w.whole_slots

  pub converted_table : SoundTable (converted t)
  converted_table = record { whole_slots = whole_kept; each = λ i l. right_each i (rw converted_slots at l) }

pub converted_sound : (t : List ℕ) → checked_by Ascii t ≡ Sound → AllOctets t → checked (converted t) ≡ Sound
converted_sound t s o = sound_table (converted t) (converted_table t (table_by Ascii t s) o)

-- T19: a sound table
module _ (t : List ℕ) (s : SoundTable t) where
  was_right : (i : ℕ) → i < slots t → right_by Ascii t i ≡ true
  unfolding right_by
  was_right i l = weaker (free (slot_at t i)) (sound_by Canonical (slot_at t i)) (sound_by Ascii (slot_at t i)) (in_lower t i) (sound_was (slot_at t i)) (s.each i l)
    where
      weaker : (f a b n : Bool) → (a ≡ true → b ≡ true) → (f || a && not n) ≡ true → (f || b && not n) ≡ true
      weaker true a b n h e = refl
      weaker false true b n h e = rw (h refl) e
      weaker false false b n h e = absurd (false≢true e)

  pub was_table : TableBy Ascii t
  was_table = record { whole_slots = s.whole_slots; each = was_right }

  -- its addresses are their own forms
  own_form : (i : ℕ) → i < slots t → marked (slot_at t i) ≡ true → form_of (slot_at t i) ≡ address_of (slot_at t i)
  unfolding form_of spelled
  own_form i l m = canonical_same (address_of (slot_at t i)) (sound_parts (slot_at t i) (used_sound t s i l m).0).address

  -- so no other slot has the form of one
  others : (i k : ℕ) → i < slots t → k < slots t → (k ≡ i → ⊥) → marked (slot_at t i) ≡ true → has_form (form_of (slot_at t i)) (slot_at t k) ≡ false
  unfolding has_address
  others i k l b d m =
      by_test (has_form (form_of (slot_at t i)) (slot_at t k))
      (λ h.
      let n : marked (slot_at t k) ≡ true = form_used (form_of (slot_at t i)) (slot_at t k) h in
      let e : address_of (slot_at t k) ≡ address_of (slot_at t i) = sym (own_form k b n) ∙ form_is (form_of (slot_at t i)) (slot_at t k) h ∙ own_form i l m in
      absurd (d (alone t s (address_of (slot_at t i)) k i b l (stands k n e) (stands i m refl))))
      (λ h. h)
    where
      stands : (j : ℕ) → marked (slot_at t j) ≡ true → address_of (slot_at t j) ≡ address_of (slot_at t i) → has_address (address_of (slot_at t i)) (slot_at t j) ≡ true
      stands j n e = rw (n, e) (same_refl (address_of (slot_at t i)))

  module _ (o : AllOctets t) where
    stays_at : (i : ℕ) → i < slots t → slot_at t i ≡ converted_at t (slots t) i
    unfolding slot_for renamed entry_of
    stays_at i l =
        by_test (marked (slot_at t i))
        (λ m.
        sym
        (leads_slot t (slots t) i (first_leads t i m (λ k b. others i k l (omega arith) (λ q. omega arith) m))
        ∙ ap slot_for
        (gathered_only (form_of (slot_at t i)) t (slots t) i l (form_has (form_of (slot_at t i)) (slot_at t i) m refl) (λ k b d. others i k l b d m))
        ∙ ap (λ (a : List ℕ). slot_of (renamed a (entry_of (slot_at t i)))) (own_form i l m)
        ∙ slot_back (slot_at t i) (slotwise.slot_long t i l) (sound_parts (slot_at t i) (used_sound t s i l m).0) (slotwise.slot_octets t i o)))
        (λ m. free_is (slot_at t i) (slotwise.slot_long t i l) (unused_free t s i l m) ∙ sym (follows_free t (slots t) i (unused_follows t i m)))

    pub table_stays : converted t ≡ t
    unfolding converted
    table_stays = sym (table_is (converted_at t (slots t)) (slots t) t (whole_long t s.whole_slots) (λ i l. stays_at i l))

module _ (t : List ℕ) (s : checked t ≡ Sound) where
  pub was_sound : checked_by Ascii t ≡ Sound
  was_sound = by_table Ascii t (was_table t (table_sound t s))

  pub sound_stays : AllOctets t → converted t ≡ t
  sound_stays o = table_stays t (table_sound t s) o

pub converted_twice : (t : List ℕ) → checked_by Ascii t ≡ Sound → AllOctets t → converted (converted t) ≡ converted t
converted_twice t s o = sound_stays (converted t) (converted_sound t s o) (converted_octets t (table_by Ascii t s) o)
