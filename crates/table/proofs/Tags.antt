-- The tags of a table that is written to.
--     tagged_new         an entry put in a slot, and its tag beside it
--     tagged_kept        an entry of the address that the slot had before
--     begin_room         the address lies in the room for one
--     begin_tagged       the tags that `begin` leaves
-- Assumes nothing.
use Prim.Native.Nat.{ℕ, ◌+◌, ◌-◌, ◌*◌, ◌<◌, ◌≤◌}
use mathlib.Core.Path.{◌≡◌, sym, ◌∙◌}
use mathlib.Core.Bool.{true}
use mathlib.Core.List.{List, ◌++◌}
use native.Mathlib.Omega.{arith}
use borrow.Author.Tests.{eqb-true, eqb-false}
use mir.Syntax.{w8}
use mir.Val.{Fits}
use lib.Dec.{eqb}
use lib.ListN.{length, get_or, set, take, drop, length-set}
use lib.Seq.{get_or-set_same, get_or-set_other}
use Rattle.octets.proofs.Lists.{given_octets}
use Rattle.octets.proofs.Tests.{by_test}
use Rattle.slots.specs.Slot.{address_room, marked, address_of}
use Rattle.address.proofs.Spelling.{own_most}
use Rattle.heads.specs.Entry.{Entry, newcomer}
use Rattle.slots.specs.Entry.{slot_of, Good}
use Rattle.heads.proofs.Goodness.{good_newcomer}
use Rattle.slots.proofs.Made.{slot_long, address_kept}
use Rattle.tags.specs.Tags.{tag_of}
use Rattle.table.specs.Table.{slots, slot_at, with_slot}
use Rattle.table.specs.Tagged.{tag_at, Tagged, Begins}
use Rattle.table.proofs.Slots.{slots_kept, slot_same, slot_other, put_slot}
use Rattle.table.proofs.Replaced.{made_marked}

module _ (t tags : List ℕ) (h : Tagged t tags) (i : ℕ) (l : i < slots t) (e : Entry) (g : Good e) where
  same_count : slots (with_slot t i (slot_of e)) ≡ slots t
  same_count = slots_kept t (slot_of e) i l (slot_long e g)

  tag_here : tag_at (with_slot t i (slot_of e)) i ≡ tag_of e.address
  unfolding tag_at
  tag_here = rw (slot_same t (slot_of e) i l (slot_long e g), made_marked e g, address_kept e g)

  tag_there : (j : ℕ) → (j ≡ i → ⊥) → tag_at (with_slot t i (slot_of e)) j ≡ tag_at t j
  unfolding tag_at
  tag_there j d = rw (slot_other t (slot_of e) i l (slot_long e g) j d)

  pub tagged_new : Tagged (with_slot t i (slot_of e)) (set tags i (tag_of e.address))
  tagged_new =
      record {
        few = rw same_count h.few;
        room = simp length-set h.room;
        each = λ k b.
            by_test (eqb k i)
            (λ q.
            let p : k ≡ i = eqb-true k i q in
            rw p (get_or-set_same tags i (tag_of e.address) 0 (omega (arith, h.room, h.few)) ∙ sym tag_here))
            (λ q.
            get_or-set_other tags i k (tag_of e.address) 0 (eqb-false k i q)
            ∙ h.each k (rw same_count at b)
            ∙ sym (tag_there k (eqb-false k i q)));
      }

  module _ (m : marked (slot_at t i) ≡ true) (a : address_of (slot_at t i) ≡ e.address) where
    tag_before : tag_at t i ≡ tag_of e.address
    unfolding tag_at
    tag_before = rw (m, a)

    pub tagged_kept : Tagged (with_slot t i (slot_of e)) tags
    tagged_kept =
        record {
          few = rw same_count h.few;
          room = h.room;
          each = λ k b.
              by_test (eqb k i)
              (λ q. let p : k ≡ i = eqb-true k i q in rw p (h.each i l ∙ tag_before ∙ sym tag_here))
              (λ q. h.each k (rw same_count at b) ∙ sym (tag_there k (eqb-false k i q)));
        }

-- what `begin` asks, and what it leaves: w stands in the slot that was lent on
module _ (t tags a : List ℕ) (i : ℕ) (b : Begins t tags i a) where
  pub begin_room : length a ≤ address_room
  begin_room = omega (arith, own_most a b.canonical)

  pub begin_tagged : (tags₂ w : List ℕ) → tags₂ ≡ set tags i (tag_of a) → ((j : ℕ) → Fits w8 (get_or a j 0))
      → length w ≡ length (take (i * 4392 + 4392 - i * 4392) (drop (i * 4392) t)) → w ≡ slot_of (newcomer a)
      → Tagged (take (i * 4392) t ++ (w ++ drop (i * 4392 + 4392 - i * 4392) (drop (i * 4392) t))) tags₂
  unfolding newcomer
  begin_tagged tags₂ w p o k e =
      rw (put_slot t i b.within w k, e, p)
      (tagged_new t tags b.tagged i b.within (newcomer a) (good_newcomer a b.canonical (given_octets a o)))
