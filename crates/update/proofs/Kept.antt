-- The three writers leave an open table open: sound, and its tags its own.
--     seen_open, field_open, gossip_open    where the entry was changed
--     keeping                               what the three ask
-- Assumes nothing.
use Rattle.std.specs.Prelude.{Option, Some}
use Prim.Native.Nat.{ℕ, ◌≤◌}
use mathlib.Core.Path.{◌≡◌}
use mathlib.Core.Bool.{Bool, true, false}
use mathlib.Core.List.{List}
use borrow.Author.Rules.{rules}
use mir.Syntax.{w8}
use mir.Val.{Fits}
use lib.ListN.{length, get_or}
use Rattle.octets.proofs.Lists.{given_octets}
use Rattle.address.specs.Address.{is_canonical}
use Rattle.heads.specs.Head.{time_limit}
use Rattle.slots.specs.Slot.{key_limit}
use Rattle.heads.specs.Entry.{seen_by, with_direct, with_gossip}
use Rattle.slots.specs.Entry.{entry_of, slot_of}
use Rattle.table.specs.Table.{slot_at, with_slot, found, checked}
use Rattle.table.specs.Tagged.{Open}
use Rattle.table.specs.declared.Checked.TheVariants.{Sound}
use Rattle.update.specs.Update.{younger, younger_gossip, begun}
use Rattle.update.proofs.Writing.{seen_raised, field_set, gossip_set}
use Rattle.update.proofs.Putting.{keyless_open, keyed_open, heard_open}

-- as the code has it: f, u and tags are what `place` answered and left
module _ (t a u tags : List ℕ) (w : Open u tags) (eu : u ≡ begun t a) (s : checked t ≡ Sound) (c : is_canonical a ≡ true) (o : (j : ℕ) → Fits w8 (get_or a j 0))
    (p : (j : ℕ) → Fits w8 (get_or t j 0)) (f : Option ℕ) (i : ℕ) (ef : f ≡ found (begun t a) a) (ei : f ≡ Some i) (date : ℕ) (h : date ≤ time_limit)
    (b : Bool) (hb : b ≡ false) (v : List ℕ) where
  placed : Open (begun t a) tags
  placed = rw eu at w

  pub seen_open : b ≡ younger date (entry_of (slot_at u i)).direct → v ≡ with_slot u i (slot_of (seen_by date (entry_of (slot_at u i)))) → Open v tags
  seen_open e ev = rw (seen_raised t a u f i ef eu ei date b hb e v ev) (keyless_open t a c (given_octets a o) s (given_octets t p) date h tags placed)

  module _ (key : List ℕ) (k₁ : 1 ≤ length key) (k₂ : length key ≤ key_limit) (k₃ : (j : ℕ) → Fits w8 (get_or key j 0)) where
    pub field_open : b ≡ younger date (entry_of (slot_at u i)).direct → (m : Bool)
        → v ≡ with_slot u i (slot_of (with_direct (record { timestamp = date; key = key; «mutual» = m }) (seen_by date (entry_of (slot_at u i))))) → Open v tags
    field_open e m ev =
        rw (field_set t a u f i ef eu ei date b hb e key m v ev)
        (keyed_open t a c (given_octets a o) s (given_octets t p) date h tags placed key k₁ k₂ (given_octets key k₃) m)

    pub gossip_open : b ≡ younger_gossip date (entry_of (slot_at u i)).gossip
        → v ≡ with_slot u i (slot_of (with_gossip (record { timestamp = date; key = key }) (entry_of (slot_at u i)))) → Open v tags
    gossip_open e ev =
        rw (gossip_set t a u f i ef eu ei date b hb e key v ev)
        (heard_open t a c (given_octets a o) s (given_octets t p) date h tags placed key k₁ k₂ (given_octets key k₃))

pub ruleset keeping = (seen_open, field_open, gossip_open, rules)
