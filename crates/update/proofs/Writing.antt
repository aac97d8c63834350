-- What the three writers leave is `put` of the change.
--     weighing                        what `has_younger` and `has_younger_gossip` ask
--     taking_stays, taking_takes      what comes in for a half, by the test of its order
--     updated_older .. heard_now      `updated` and `heard` by their tests
--     good_updated                    a direct half that was brought is good under last seen raised to its date
--     setting                         what `set_field` asks: two writes to one slot
--     entry_over                      an entry written over itself leaves the table
--     within, sound_place             what is known of the slot that was placed
--     written, left_alone             the table with the entry changed, and where the change leaves it
--     seeing, keying, hearing         what `update_keyless`, `update_with_key` and `hear` ask
-- Assumes nothing.
use Prim.Native.Nat.{ℕ, ◌<◌, ◌≤◌}
use mathlib.Core.Path.{◌≡◌, refl, sym, ◌∙◌}
use mathlib.Core.Bool.{Bool, true, false, ◌&&◌}
use Rattle.std.specs.Prelude.{Option, Some, None}
use mathlib.Core.List.{List}
use native.Mathlib.Nat.{le-max_right}
use borrow.Author.Rules.{rules}
use mir.Syntax.{w8}
use mir.Val.{Fits}
use lib.Dec.{ltb}
use lib.ListN.{length, get_or}
use Rattle.octets.specs.Octets.{AllOctets}
use Rattle.octets.specs.Options.{or_else, is_some}
use Rattle.octets.proofs.Lists.{given_octets}
use Rattle.address.specs.Address.{is_canonical}
use Rattle.heads.specs.declared.Head.{Head}
use Rattle.heads.specs.Head.{time_limit, has_direct, has_gossip, is_mutual, timestamp, gossip_timestamp, head_of}
use Rattle.slots.specs.Slot.{slot_length, key_limit, direct_key_of, gossip_key_of, sound}
use Rattle.heads.specs.Entry.{Direct, Entry, present, seen_by, with_direct, with_gossip}
use Rattle.slots.specs.Entry.{entry_of, slot_of, GoodKey, Good}
use Rattle.slots.proofs.Sounds.{sound_parts}
use Rattle.slots.proofs.Entries.{slot_back}
use Rattle.slots.proofs.Made.{slot_long, slot_sound, entry_back}
use Rattle.heads.proofs.Goodness.{good_seen_by, good_with_direct}
use Rattle.slots.proofs.Goodness.{good_entry}
use Rattle.table.specs.Table.{slots, slot_at, with_slot, found, checked}
use Rattle.table.specs.declared.Checked.TheVariants.{Sound}
use Rattle.table.proofs.Slots.{slots_kept, slot_same, slot_octets, slot_long as part_long}
use Rattle.table.proofs.Finding.{found_at}
use Rattle.table.proofs.Replaced.{written_over, written_back}
use Rattle.table.proofs.Entries.{entry_sound}
use Rattle.update.specs.Update.{Order, stays, Half, with_half, taking, above, the_direct, younger, with_field, updated, the_gossip, younger_gossip, heard, begun, put}
use Rattle.update.proofs.Placing.{begun_sound, put_at, put_nothing}

-- the test of a half, as its numbers are stored
half_test : {A : Type 0} (half : Half A) (date : ℕ) (b : Bool) (x : A) → (b && ltb date (half.timestamp x)) ≡ stays (above half) (present b x) date None
unfolding stays above
half_test half date true x = refl
half_test half date false x = refl

module _ (s : List ℕ) (n : Head) (date : ℕ) (e : n ≡ head_of s) (b : Bool) where
  pub younger_is : b ≡ (n.direct && ltb date n.timestamp) → b ≡ younger date (entry_of s).direct
  unfolding younger entry_of head_of
  younger_is p = p ∙ rw e (half_test the_direct date (has_direct s) (record { timestamp = timestamp s; key = direct_key_of s; «mutual» = is_mutual s }))

  pub younger_gossip_is : b ≡ (n.gossip && ltb date n.gossip_timestamp) → b ≡ younger_gossip date (entry_of s).gossip
  unfolding younger_gossip entry_of head_of
  younger_gossip_is p = p ∙ rw e (half_test the_gossip date (has_gossip s) (record { timestamp = gossip_timestamp s; key = gossip_key_of s }))

pub ruleset weighing = (younger_is, younger_gossip_is, rules)

-- what comes in for a half, by the test
module _ {A : Type 0} (half : Half A) (order : Order A) (date : ℕ) (brought : Option A) (e : Entry) where
  pub taking_stays : stays order (half.stored e) date brought ≡ true → taking half order date brought e ≡ e
  unfolding taking
  taking_stays h = rw (taking, h)

  pub taking_takes : stays order (half.stored e) date brought ≡ false → taking half order date brought e ≡ with_half half brought (half.dated date e)
  unfolding taking
  taking_takes h = rw (taking, h)

-- whether a half stays is asked of the date alone, not of what comes in
by_date : {A : Type 0} (half : Half A) (old : Option A) (date : ℕ) (brought : Option A) → stays (above half) old date brought ≡ stays (above half) old date None
unfolding stays above
by_date half None date brought = refl
by_date half (Some x) date brought = refl

module _ (date : ℕ) (e : Entry) where
  pub updated_older : (brought : Option Direct) → younger date e.direct ≡ true → updated date brought e ≡ e
  unfolding updated younger
  updated_older brought h = taking_stays the_direct (above the_direct) date brought e (by_date the_direct e.direct date brought ∙ h)

  pub updated_now : (brought : Option Direct) → younger date e.direct ≡ false → updated date brought e ≡ with_field brought (seen_by date e)
  unfolding updated younger with_field
  updated_now brought h = taking_takes the_direct (above the_direct) date brought e (by_date the_direct e.direct date brought ∙ h)

  pub heard_older : (key : List ℕ) → younger_gossip date e.gossip ≡ true → heard date key e ≡ e
  unfolding heard younger_gossip
  heard_older key h = taking_stays the_gossip (above the_gossip) date _ e (by_date the_gossip e.gossip date _ ∙ h)

  pub heard_now : (key : List ℕ) → younger_gossip date e.gossip ≡ false → heard date key e ≡ with_gossip (record { timestamp = date; key = key }) e
  unfolding heard younger_gossip
  heard_now key h = taking_takes the_gossip (above the_gossip) date _ e (by_date the_gossip e.gossip date _ ∙ h)

-- a direct half that was brought, under last seen raised to its date
pub good_updated : (e : Entry) → Good e → (date : ℕ) → date ≤ time_limit → (d : Direct) → GoodKey d.key → d.timestamp ≡ date → Good (with_direct d (seen_by date e))
unfolding seen_by is_some or_else
good_updated e g date h d k q =
    good_with_direct (seen_by date e) (good_seen_by e g date h) d
    (record { key = k; was_seen = refl; not_below = rw q (le-max_right (or_else 0 e.last_seen) date) })

-- two writes to one slot of a table, as the code has them: v is what `raise_seen` left, w what `set_direct` left behind it
module _ (t v : List ℕ) (i date : ℕ) (ev : v ≡ with_slot t i (slot_of (seen_by date (entry_of (slot_at t i))))) (l : i < slots t)
    (s : sound (slot_at t i) ≡ true) (h : date ≤ time_limit) (o : (j : ℕ) → Fits w8 (get_or t j 0)) where
  good : Good (entry_of (slot_at t i))
  good = good_entry (slot_at t i) (part_long t i l) (sound_parts (slot_at t i) s) (slot_octets t i (given_octets t o))

  good_seen : Good (seen_by date (entry_of (slot_at t i)))
  good_seen = good_seen_by (entry_of (slot_at t i)) good date h

  seen_long : length (slot_of (seen_by date (entry_of (slot_at t i)))) ≡ slot_length
  seen_long = slot_long (seen_by date (entry_of (slot_at t i))) good_seen

  seen_there : slot_at v i ≡ slot_of (seen_by date (entry_of (slot_at t i)))
  seen_there = rw ev (slot_same t (slot_of (seen_by date (entry_of (slot_at t i)))) i l seen_long)

  pub within_still : i < slots v
  within_still = rw (ev, slots_kept t (slot_of (seen_by date (entry_of (slot_at t i)))) i l seen_long) l

  pub sound_still : sound (slot_at v i) ≡ true
  sound_still = rw seen_there (slot_sound (seen_by date (entry_of (slot_at t i))) good_seen)

  pub written_twice : (key : List ℕ) (m : Bool) (w : List ℕ)
      → w ≡ with_slot v i (slot_of (with_direct (record { timestamp = date; key = key; «mutual» = m }) (entry_of (slot_at v i))))
      → 1 ≤ length key → length key ≤ key_limit → ((j : ℕ) → Fits w8 (get_or key j 0))
      → w ≡ with_slot t i (slot_of (with_direct (record { timestamp = date; key = key; «mutual» = m }) (seen_by date (entry_of (slot_at t i)))))
  written_twice key m w ew k₁ k₂ k₃ =
      let x : Entry = entry_of (slot_at t i) in
      let d : Direct = record { timestamp = date; key = key; «mutual» = m } in
      let all : Good (with_direct d (seen_by date x)) =
      good_updated x good date h d (record { some_octet = k₁; most = k₂; octets = given_octets key k₃ }) refl in
      let back : entry_of (slot_at v i) ≡ seen_by date x = rw seen_there (entry_back (seen_by date x) good_seen) in
      ew ∙ rw (back, ev) (written_over t i l (slot_of (seen_by date x)) (slot_of (with_direct d (seen_by date x))) seen_long (slot_long (with_direct d (seen_by date x)) all))

pub ruleset setting = (within_still, sound_still, written_twice, rules)

-- a slot written back
pub entry_over : (t a : List ℕ) (i : ℕ) → found t a ≡ Some i → checked t ≡ Sound → AllOctets t → with_slot t i (slot_of (entry_of (slot_at t i))) ≡ t
entry_over t a i e s o =
    let l : i < slots t = (found_at t a i e).0 in
    rw (slot_back (slot_at t i) (part_long t i l) (sound_parts (slot_at t i) (entry_sound t a s i e)) (slot_octets t i o)) (written_back t i l)

-- as the code has it: f and u are what `place` answered and left
module _ (t a u : List ℕ) (f : Option ℕ) (i : ℕ) (ef : f ≡ found (begun t a) a) (eu : u ≡ begun t a) (ei : f ≡ Some i) where
  here : found (begun t a) a ≡ Some i
  here = sym ef ∙ ei

  pub within : i < slots u
  within = rw eu (found_at (begun t a) a i here).0

  pub written : (change : Entry → Entry) (v : List ℕ) → v ≡ with_slot u i (slot_of (change (entry_of (slot_at u i)))) → v ≡ put t a change
  written change v e = e ∙ rw eu (sym (put_at t a change i here))

  module _ (s : checked t ≡ Sound) (c : is_canonical a ≡ true) (o : (j : ℕ) → Fits w8 (get_or a j 0)) where
    pub sound_place : sound (slot_at u i) ≡ true
    sound_place = rw eu (entry_sound (begun t a) a (begun_sound t a c (given_octets a o) s) i here)

    module _ (p : (j : ℕ) → Fits w8 (get_or u j 0)) where
      octets : AllOctets (begun t a)
      octets = rw eu at (given_octets u p)

      pub left_alone : (change : Entry → Entry) → change (entry_of (slot_at u i)) ≡ entry_of (slot_at u i) → u ≡ put t a change
      left_alone change k =
          let q : change (entry_of (slot_at (begun t a) i)) ≡ entry_of (slot_at (begun t a) i) = rw eu at k in
          eu
          ∙ sym
          (put_at t a change i here
          ∙ rw q (entry_over (begun t a) a i here (begun_sound t a c (given_octets a o) s) octets))

      module _ (date : ℕ) (b : Bool) where
        pub left_older : (brought : Option Direct) → b ≡ younger date (entry_of (slot_at u i)).direct → b ≡ true → u ≡ put t a (updated date brought)
        left_older brought e h = left_alone (updated date brought) (updated_older date (entry_of (slot_at u i)) brought (sym e ∙ h))

        pub left_unheard : (key : List ℕ) → b ≡ younger_gossip date (entry_of (slot_at u i)).gossip → b ≡ true → u ≡ put t a (heard date key)
        left_unheard key e h = left_alone (heard date key) (heard_older date (entry_of (slot_at u i)) key (sym e ∙ h))

  module _ (date : ℕ) (b : Bool) (h : b ≡ false) where
    module _ (e : b ≡ younger date (entry_of (slot_at u i)).direct) where
      pub seen_raised : (v : List ℕ) → v ≡ with_slot u i (slot_of (seen_by date (entry_of (slot_at u i)))) → v ≡ put t a (updated date None)
      unfolding with_field
      seen_raised v ev = written (updated date None) v (ev ∙ rw (updated_now date (entry_of (slot_at u i)) None (sym e ∙ h)))

      pub field_set : (key : List ℕ) (m : Bool) (v : List ℕ)
          → v ≡ with_slot u i (slot_of (with_direct (record { timestamp = date; key = key; «mutual» = m }) (seen_by date (entry_of (slot_at u i)))))
          → v ≡ put t a (updated date (Some (record { timestamp = date; key = key; «mutual» = m })))
      unfolding with_field
      field_set key m v ev =
          let d : Direct = record { timestamp = date; key = key; «mutual» = m } in
          written (updated date (Some d)) v (ev ∙ rw (updated_now date (entry_of (slot_at u i)) (Some d) (sym e ∙ h)))

    pub gossip_set : b ≡ younger_gossip date (entry_of (slot_at u i)).gossip → (key v : List ℕ)
        → v ≡ with_slot u i (slot_of (with_gossip (record { timestamp = date; key = key }) (entry_of (slot_at u i)))) → v ≡ put t a (heard date key)
    gossip_set e key v ev = written (heard date key) v (ev ∙ rw (heard_now date (entry_of (slot_at u i)) key (sym e ∙ h)))

pub nowhere : (t a u : List ℕ) (f : Option ℕ) (change : Entry → Entry) → f ≡ found (begun t a) a → u ≡ begun t a → f ≡ None → u ≡ put t a change
nowhere t a u f change ef eu en = eu ∙ sym (put_nothing t a change (sym ef ∙ en))

pub ruleset seeing = (within, sound_place, seen_raised, left_older, nowhere, rules)

pub ruleset keying = (within, sound_place, field_set, left_older, nowhere, rules)

pub ruleset hearing = (within, sound_place, gossip_set, left_unheard, nowhere, rules)
