-- What a table holds of an address, by where the address stands.
--     entry_at, entry_nothing    the entry of the slot where it stands; none where it stands nowhere
--     entry_sound                that slot is sound
--     found_good, entry_good     what it holds is a good entry, and of that address
--     slots_most                 a checked table has at most 256 slots
-- Assumes nothing.
use Prim.Native.Nat.{ℕ, ◌≤◌}
use mathlib.Core.Path.{◌≡◌, sym, ◌∙◌}
use mathlib.Core.Bool.{true}
use mathlib.Core.List.{List}
use Rattle.std.specs.Prelude.{Some, None}
use native.Mathlib.Omega.{arith}
use Rattle.octets.specs.Octets.{AllOctets}
use Rattle.slots.specs.Slot.{sound}
use Rattle.heads.specs.Entry.{Entry}
use Rattle.slots.specs.Entry.{entry_of, Good}
use Rattle.slots.proofs.Sounds.{sound_parts}
use Rattle.slots.proofs.Goodness.{good_entry}
use Rattle.table.specs.Table.{slots, slot_at, found, checked}
use Rattle.table.specs.Entries.{entry_in}
use Rattle.table.specs.declared.Checked.TheVariants.{Sound}
use Rattle.table.proofs.Slots.{slot_octets, slot_long}
use Rattle.table.proofs.Lowest.{by_found}
use Rattle.table.proofs.Finding.{found_at, found_used, found_address}
use Rattle.table.proofs.Judging.{whole_few}
use Rattle.table.proofs.Keeping.{table_sound, used_sound}

module _ (t a : List ℕ) where
  pub entry_at : (i : ℕ) → found t a ≡ Some i → entry_in t a ≡ Some (entry_of (slot_at t i))
  unfolding entry_in
  entry_at i e = rw (entry_in, e)

  pub entry_nothing : found t a ≡ None → entry_in t a ≡ None
  unfolding entry_in
  entry_nothing e = rw (entry_in, e)

  pub entry_sound : checked t ≡ Sound → (i : ℕ) → found t a ≡ Some i → sound (slot_at t i) ≡ true
  entry_sound s i e = (used_sound t (table_sound t s) i (found_at t a i e).0 (found_used t a i e)).0

module _ (t a : List ℕ) (s : checked t ≡ Sound) (o : AllOctets t) where
  pub found_good : (i : ℕ) → found t a ≡ Some i → Good (entry_of (slot_at t i))
  found_good i e =
      good_entry (slot_at t i) (slot_long t i (found_at t a i e).0) (sound_parts (slot_at t i) (entry_sound t a s i e)) (slot_octets t i o)

  pub entry_good : (e : Entry) → entry_in t a ≡ Some e → Good e × (e.address ≡ a)
  unfolding entry_of
  entry_good e p =
      by_found (found t a)
      (λ i f.
      let q : Some (entry_of (slot_at t i)) ≡ Some e = sym (entry_at t a i f) ∙ p in
      let r : entry_of (slot_at t i) ≡ e = cc in
      rw (← r) (found_good i f, found_address t a i f))
      (λ f.
      let q : None ≡ Some e = sym (entry_nothing t a f) ∙ p in
      let z : ◌≡◌ {A = ℕ} 0 1 = cc in
      absurd (omega arith))

pub slots_most : (t : List ℕ) → checked t ≡ Sound → slots t ≤ 256
slots_most t s = whole_few t (table_sound t s).whole_slots
