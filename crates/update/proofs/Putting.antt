-- What a change that is put leaves: a sound table, the entry of its address changed, every other as it was.
--     Keeps                          a change that keeps an entry good and its address
--     keeps_updated, keeps_heard     the two changes of a message
--     has_place                      an entry of its own, or a free slot
--     begun_entry, begun_other       the entries once that of the address is begun
--     put_sound, put_octets          the table stays sound, and its octets octets
--     put_open                       and the tags that it was begun with its tags
--     put_own, put_other             the entry of the address, and any other
--     put_entry                      both in one
--     keyless_open .. heard_open     sound behind each of the three writers, with its tags
-- Assumes nothing.
use Prim.Native.Nat.{ℕ, ◌<◌, ◌≤◌}
use mathlib.Core.Path.{◌≡◌, refl, sym, ap, ◌∙◌}
use mathlib.Core.Bool.{Bool, true, false, ◌||◌, and-false, false≢true}
use Rattle.std.specs.Prelude.{Option, Some, None}
use mathlib.Core.List.{List}
use native.Mathlib.Omega.{arith}
use lib.ListN.{length}
use Rattle.octets.specs.Octets.{AllOctets, same_octets}
use Rattle.octets.specs.Options.{or_else, IfSome}
use Rattle.octets.proofs.Comparing.{same_true}
use Rattle.octets.proofs.Tests.{by_test}
use Rattle.address.specs.Address.{is_canonical}
use Rattle.heads.specs.Head.{time_limit}
use Rattle.slots.specs.Slot.{key_limit, marked, address_of}
use Rattle.heads.specs.Entry.{Direct, Entry, newcomer, seen_by, with_direct, with_gossip}
use Rattle.slots.specs.Entry.{entry_of, slot_of, GoodKey, Good}
use Rattle.slots.proofs.Made.{slot_octets, slot_long, entry_back}
use Rattle.heads.proofs.Goodness.{good_newcomer, good_seen_by, good_with_gossip}
use Rattle.table.specs.Table.{slots, slot_at, with_slot, found, lowest_free, is_at, checked, has_address}
use Rattle.table.specs.Entries.{entry_in}
use Rattle.table.specs.Tagged.{Open}
use Rattle.table.specs.declared.Checked.TheVariants.{Sound}
use Rattle.table.proofs.Slots.{slot_same}
use Rattle.table.proofs.Finding.{found_at, found_used, found_address, free_at}
use Rattle.table.proofs.Keeping.{table_sound, others_not, write_own}
use Rattle.table.proofs.Replaced.{written_octets, entry_written, entry_kept}
use Rattle.table.proofs.Entries.{entry_at, entry_nothing, found_good}
use Rattle.table.proofs.Lowest.{by_found}
use Rattle.table.proofs.Tags.{tagged_kept}
use Rattle.update.specs.Update.{younger, with_field, updated, younger_gossip, heard, begun, put}
use Rattle.update.specs.Message.{entry_put, GoodBrought}
use Rattle.update.proofs.Placing.{begun_own, begun_new, begun_full, begun_found, begun_sound, begun_octets, put_at, put_nothing}
use Rattle.update.proofs.Writing.{updated_older, updated_now, heard_older, heard_now, good_updated}

pub record Keeps (change : Entry → Entry) : Type 0 where
  pub good : (e : Entry) → Good e → Good (change e)
  pub address : (e : Entry) → (change e).address ≡ e.address

module _ (date : ℕ) (h : date ≤ time_limit) where
  good_field : (brought : Option Direct) → IfSome (GoodBrought date) brought → (e : Entry) → Good e → Good (with_field brought (seen_by date e))
  unfolding with_field
  good_field None b e g = good_seen_by e g date h
  good_field (Some d) b e g = good_updated e g date h d b.key b.dated

  field_address : (brought : Option Direct) (e : Entry) → (with_field brought (seen_by date e)).address ≡ e.address
  unfolding with_field seen_by with_direct
  field_address None e = refl
  field_address (Some d) e = refl

  pub keeps_updated : (brought : Option Direct) → IfSome (GoodBrought date) brought → Keeps (updated date brought)
  keeps_updated brought b =
      record {
        good = λ e g.
            by_test (younger date e.direct) (λ y. rw (updated_older date e brought y) g)
            (λ y. rw (updated_now date e brought y) (good_field brought b e g));
        address = λ e.
            by_test (younger date e.direct) (λ y. ap (λ (x : Entry). x.address) (updated_older date e brought y))
            (λ y. ap (λ (x : Entry). x.address) (updated_now date e brought y) ∙ field_address brought e);
      }

  gossip_address : (key : List ℕ) (e : Entry) → (with_gossip (record { timestamp = date; key = key }) e).address ≡ e.address
  unfolding with_gossip
  gossip_address key e = refl

  pub keeps_heard : (key : List ℕ) → GoodKey key → Keeps (heard date key)
  keeps_heard key k =
      record {
        good = λ e g.
            by_test (younger_gossip date e.gossip) (λ y. rw (heard_older date e key y) g)
            (λ y. rw (heard_now date e key y) (good_with_gossip e g (record { timestamp = date; key = key }) (record { key = k; in_range = h })));
        address = λ e.
            by_test (younger_gossip date e.gossip) (λ y. ap (λ (x : Entry). x.address) (heard_older date e key y))
            (λ y. ap (λ (x : Entry). x.address) (heard_now date e key y) ∙ gossip_address key e);
      }

-- an entry of its own, or the lowest free slot
unfoldable pub has_place : List ℕ → List ℕ → Bool
has_place t a = is_at (found t a) || is_at (lowest_free t)

-- a free slot holds nothing, and a slot that holds one address holds no other
unmarked_holds : (b s : List ℕ) → marked s ≡ false → has_address b s ≡ false
unfolding has_address
unmarked_holds b s m = rw m

other_holds : (a b s : List ℕ) → address_of s ≡ a → same_octets a b ≡ false → has_address b s ≡ false
unfolding has_address
other_holds a b s e n = rw (e, n) (and-false (marked s))

-- the entry of a slot has the slot's address
pub entry_address : (s : List ℕ) → (entry_of s).address ≡ address_of s
unfolding entry_of
entry_address s = refl

module _ (t a : List ℕ) (c : is_canonical a ≡ true) (p : AllOctets a) where
  new : Good (newcomer a)
  new = good_newcomer a c p

  pub begun_entry : has_place t a ≡ true → entry_in (begun t a) a ≡ Some (or_else (newcomer a) (entry_in t a))
  unfolding has_place or_else
  begun_entry h =
      by_found (found t a) (λ i e. rw (begun_own t a i e, entry_at t a i e))
      (λ e.
      by_found (lowest_free t)
      (λ i f.
      let l : i < slots t = (free_at t i f).0 in
      let r : slot_at (begun t a) i ≡ slot_of (newcomer a) = rw (begun_new t a e i f) (slot_same t (slot_of (newcomer a)) i l (slot_long (newcomer a) new)) in
      entry_at (begun t a) a i (begun_found t a c p i e f) ∙ rw (r, entry_back (newcomer a) new, entry_nothing t a e))
      (λ f. absurd (false≢true (rw (e, f) at h))))

  pub begun_other : (b : List ℕ) → same_octets a b ≡ false → entry_in (begun t a) b ≡ entry_in t b
  unfolding newcomer
  begun_other b n =
      by_found (found t a) (λ i e. rw (begun_own t a i e))
      (λ e.
      by_found (lowest_free t)
      (λ i f. rw (begun_new t a e i f) (entry_kept t i (free_at t i f).0 (newcomer a) new b n (unmarked_holds b (slot_at t i) (free_at t i f).1)))
      (λ f. rw (begun_full t a e f)))

  module _ (change : Entry → Entry) (k : Keeps change) (s : checked t ≡ Sound) (o : AllOctets t) where
    begun_is_sound : checked (begun t a) ≡ Sound
    begun_is_sound = begun_sound t a c p s

    -- the slot of the address, and the changed entry
    module _ (i : ℕ) (f : found (begun t a) a ≡ Some i) where
      pub changed_good : Good (change (entry_of (slot_at (begun t a) i)))
      changed_good = k.good (entry_of (slot_at (begun t a) i)) (found_good (begun t a) a begun_is_sound (begun_octets t a c p o) i f)

      pub changed_address : (change (entry_of (slot_at (begun t a) i))).address ≡ a
      changed_address = k.address (entry_of (slot_at (begun t a) i)) ∙ entry_address (slot_at (begun t a) i) ∙ found_address (begun t a) a i f

      changed_others : (j : ℕ) → j < slots (begun t a) → (j ≡ i → ⊥) → has_address (change (entry_of (slot_at (begun t a) i))).address (slot_at (begun t a) j) ≡ false
      changed_others j l d = rw changed_address (others_not (begun t a) (table_sound (begun t a) begun_is_sound) a i f j l d)

      changed_entry : entry_in (put t a change) a ≡ Some (change (entry_of (slot_at (begun t a) i)))
      changed_entry =
          rw (put_at t a change i f)
          (ap (λ (b : List ℕ). entry_in (with_slot (begun t a) i (slot_of (change (entry_of (slot_at (begun t a) i))))) b) (sym changed_address)
          ∙ entry_written (begun t a) i (found_at (begun t a) a i f).0 (change (entry_of (slot_at (begun t a) i))) changed_good changed_others)

    pub put_sound : checked (put t a change) ≡ Sound
    put_sound =
        by_found (found (begun t a) a)
        (λ i f.
        rw (put_at t a change i f)
        (write_own (begun t a) (table_sound (begun t a) begun_is_sound) (change (entry_of (slot_at (begun t a) i))) (changed_good i f) i (rw (changed_address i f) f)))
        (λ f. rw (put_nothing t a change f) begun_is_sound)

    pub put_open : (tags : List ℕ) → Open (begun t a) tags → Open (put t a change) tags
    put_open tags h =
        record {
          sound = put_sound;
          tagged =
              by_found (found (begun t a) a)
              (λ i f.
              rw (put_at t a change i f)
              (tagged_kept (begun t a) tags h.tagged i (found_at (begun t a) a i f).0 (change (entry_of (slot_at (begun t a) i))) (changed_good i f)
              (found_used (begun t a) a i f)
              (found_address (begun t a) a i f ∙ sym (changed_address i f))))
              (λ f. rw (put_nothing t a change f) h.tagged);
        }

    pub put_octets : AllOctets (put t a change)
    put_octets =
        by_found (found (begun t a) a)
        (λ i f.
        rw (put_at t a change i f)
        (written_octets (begun t a) (slot_of (change (entry_of (slot_at (begun t a) i)))) i (begun_octets t a c p o)
        (slot_octets (change (entry_of (slot_at (begun t a) i))) (changed_good i f))))
        (λ f. rw (put_nothing t a change f) (begun_octets t a c p o))

    -- the entry that was there or was begun, changed
    put_changes : (e : Entry) → entry_in (begun t a) a ≡ Some e → entry_in (put t a change) a ≡ Some (change e)
    put_changes e q =
        by_found (found (begun t a) a)
        (λ i f.
        let r : Some (entry_of (slot_at (begun t a) i)) ≡ Some e = sym (entry_at (begun t a) a i f) ∙ q in
        let x : entry_of (slot_at (begun t a) i) ≡ e = cc in
        rw (← x) (changed_entry i f))
        (λ f.
        let r : None ≡ Some e = sym (entry_nothing (begun t a) a f) ∙ q in
        let z : ◌≡◌ {A = ℕ} 0 1 = cc in
        absurd (omega arith))

    pub put_own : has_place t a ≡ true → entry_in (put t a change) a ≡ Some (change (or_else (newcomer a) (entry_in t a)))
    put_own h = put_changes (or_else (newcomer a) (entry_in t a)) (begun_entry h)

    pub put_other : (b : List ℕ) → same_octets a b ≡ false → entry_in (put t a change) b ≡ entry_in t b
    put_other b n =
        by_found (found (begun t a) a)
        (λ i f.
        rw (put_at t a change i f)
        (entry_kept (begun t a) i (found_at (begun t a) a i f).0 (change (entry_of (slot_at (begun t a) i))) (changed_good i f) b
        (rw (changed_address i f) n)
        (other_holds a b (slot_at (begun t a) i) (found_address (begun t a) a i f) n))
        ∙ begun_other b n)
        (λ f. rw (put_nothing t a change f) (begun_other b n))

    pub put_entry : has_place t a ≡ true → (b : List ℕ) → entry_in (put t a change) b ≡ entry_put a change b (entry_in t b)
    unfolding entry_put
    put_entry h b =
        by_test (same_octets a b)
        (λ q. let x : a ≡ b = same_true a b q in rw (entry_put, q, ← x) (put_own h))
        (λ q. rw (entry_put, q) (put_other b q))

-- the changes of the three writers
module _ (t a : List ℕ) (c : is_canonical a ≡ true) (p : AllOctets a) (s : checked t ≡ Sound) (o : AllOctets t) (date : ℕ) (h : date ≤ time_limit)
    (tags : List ℕ) (w : Open (begun t a) tags) where
  pub keyless_open : Open (put t a (updated date None)) tags
  keyless_open = put_open t a c p (updated date None) (keeps_updated date h None tt) s o tags w

  module _ (key : List ℕ) (k₁ : 1 ≤ length key) (k₂ : length key ≤ key_limit) (k₃ : AllOctets key) where
    good_key : GoodKey key
    good_key = record { some_octet = k₁; most = k₂; octets = k₃ }

    keeps_keyed : (m : Bool) → Keeps (updated date (Some (record { timestamp = date; key = key; «mutual» = m })))
    keeps_keyed m = keeps_updated date h (Some (record { timestamp = date; key = key; «mutual» = m })) (record { dated = refl; key = good_key })

    pub keyed_open : (m : Bool) → Open (put t a (updated date (Some (record { timestamp = date; key = key; «mutual» = m })))) tags
    keyed_open m = put_open t a c p (updated date (Some (record { timestamp = date; key = key; «mutual» = m }))) (keeps_keyed m) s o tags w

    pub heard_open : Open (put t a (heard date key)) tags
    heard_open = put_open t a c p (heard date key) (keeps_heard date h key good_key) s o tags w
