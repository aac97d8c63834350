-- What C11 asks of a form of table, and that slots have it.
--     Lawful          entries of a sound table are known, good messages keep it sound, and change each entry as `entry_after` says
--     slots_lawful    the form of slots
-- Assumes nothing.
use mathlib.Core.Path.{◌≡◌, refl}
use mathlib.Core.Bool.{true}
use mathlib.Core.List.{List}
use Rattle.std.specs.Prelude.{Option, Some, None}
use Prim.Native.Nat.{ℕ}
use Rattle.octets.specs.Options.{IfSome}
use Rattle.heads.specs.Entry.{Direct, Entry}
use Rattle.slots.specs.Entry.{GoodDirect, Good}
use Rattle.table.specs.Entries.{entry_in}
use Rattle.table.proofs.Entries.{entry_good}
use Rattle.update.specs.Message.{Message, has_room, entry_after, GoodBrought, GoodMessage}
use Rattle.delivery.specs.Delivery.{delivered}
use Rattle.update.proofs.Applying.{applied_sound, applied_octets, applied_entry}
use Rattle.order.specs.Fetching.{Form, SoundSlots, slot_form}
use Rattle.order.proofs.Halves.{Seen, Timely, Stamped}
use Rattle.order.proofs.Shares.{Known}

pub record Lawful {T : Type 0} (form : Form T) : Type 0 where
  pub known : (t : T) → form.IsSound t → (a : List ℕ) → Known (form.entry t a)
  pub stamped : (m : Message) → form.IsGood m → Stamped m.date m.direct
  pub kept : (t : T) (m : Message) → form.IsSound t → form.IsGood m → form.room t m ≡ true → form.IsSound (form.delivered t m)
  pub entries : (t : T) (m : Message) → form.IsSound t → form.IsGood m → form.room t m ≡ true
      → (a : List ℕ) → form.entry (form.delivered t m) a ≡ entry_after m a (form.entry t a)

-- a good message's counted field has the message's date
good_stamped : (m : Message) → GoodMessage m → Stamped m.date m.direct
unfolding Stamped
good_stamped m g = go m.direct g.direct
  where
    go : (brought : Option Direct) → IfSome (GoodBrought m.date) brought → IfSome (λ (d : Direct). d.timestamp ≡ m.date) brought
    go None h = tt
    go (Some d) h = h.dated

good_timely : (e : Entry) → Good e → Timely e
unfolding Timely
good_timely e g = go e.direct g.direct
  where
    go : (direct : Option Direct) → IfSome (GoodDirect e.last_seen) direct → IfSome (Seen e.last_seen) direct
    go None h = tt
    go (Some d) h = record { was_seen = h.was_seen; not_below = h.not_below }

entry_known : (t : List ℕ) → SoundSlots t → (a : List ℕ) → Known (entry_in t a)
unfolding Known
entry_known t h a = go (entry_in t a) refl
  where
    go : (e : Option Entry) → entry_in t a ≡ e → IfSome Timely e
    go None q = tt
    go (Some e) q = good_timely e (entry_good t a h.sound h.octets e q).0

-- where there is room, a message is applied
module _ (t : List ℕ) (m : Message) (h : SoundSlots t) (g : GoodMessage m) (r : has_room t m ≡ true) where
  delivered_sound : SoundSlots (delivered t m)
  unfolding delivered
  delivered_sound =
      rw (delivered, r) (record { octets = applied_octets t m g h.sound h.octets; sound = applied_sound t m g h.sound h.octets })

  delivered_entry : (a : List ℕ) → entry_in (delivered t m) a ≡ entry_after m a (entry_in t a)
  unfolding delivered
  delivered_entry a = rw (delivered, r) (applied_entry t m g h.sound h.octets r a)

pub slots_lawful : Lawful slot_form
slots_lawful = record { known = entry_known; stamped = good_stamped; kept = delivered_sound; entries = delivered_entry }
