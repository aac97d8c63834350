-- One slot after the other (T17): a step of the code converts one slot more.
--     partly_long, partly_slots    a table that is partly converted has the length that it had
--     partly_below, partly_above   its slots
--     partly_none, partly_all      the first and the last of them
--     brought_unused, brought_used    what a step does
--     brought_next                 and that it leads from one to the next
-- Assumes nothing.
use Prim.Native.Nat.{ℕ, suc, ◌*◌, ◌<◌, ◌≤◌}
use mathlib.Core.Path.{◌≡◌, refl, sym, ap, subst, ◌∙◌}
use mathlib.Core.Logic.{⊎_elim}
use mathlib.Core.Bool.{true, false, false≢true}
use mathlib.Core.List.{List}
use Rattle.std.specs.Prelude.{Option, Some, None}
use native.Mathlib.Omega.{arith}
use borrow.Author.Tests.{lt-ltb, le-ltb, eqb-true, eqb-false}
use lib.Dec.{eqb}
use lib.ListN.{length}
use Rattle.octets.specs.Octets.{AllOctets}
use Rattle.octets.proofs.Lists.{lt_or_le}
use Rattle.octets.proofs.Tests.{by_test}
use Rattle.heads.specs.Entry.{Entry, renamed}
use Rattle.slots.specs.Slot.{slot_length, free_slot, marked}
use Rattle.slots.specs.Entry.{entry_of, slot_of, Good}
use Rattle.slots.specs.declared.Spelling.TheVariants.{Ascii}
use Rattle.slots.proofs.Made.{slot_long, entry_back}
use Rattle.table.specs.Table.{slots, slot_at, with_slot, has_address, lowest}
use Rattle.table.specs.Slotwise.{TableBy}
use Rattle.table.proofs.Slots as slotwise
use Rattle.table.proofs.Lowest.{by_found}
use Rattle.table.proofs.Finding.{lowest_at, lowest_nothing}
use Rattle.table.proofs.Keeping.{unused_free}
use Rattle.merge.specs.Merging.{merged}
use Rattle.merge.proofs.Later.{good_merged}
use Rattle.convert.specs.Converting.{form_of, has_form, joined, leads, slot_for, converted_at, converted}
use Rattle.convert.specs.Steps.{partly_at, partly, brought_at, brought}
use Rattle.convert.proofs.Tables.{table_long, table_at, table_is, table_same, whole_long, slots_of, free_long, free_is}
use Rattle.convert.proofs.Groups.{form_used, form_is, form_has, form_good, gathered_on, gathered_past, gathered_none, leads_used, first_leads, unused_follows, lower_follows, leader_one}
use Rattle.convert.proofs.Places.{Led, led, leads_slot, follows_free, converted_long, first_form, lowest_form}

module _ (t : List ℕ) (n i : ℕ) where
  at_below : i < n → partly_at t n i ≡ converted_at t n i
  unfolding partly_at
  at_below l = rw (partly_at, lt-ltb i n l)

  at_above : n ≤ i → partly_at t n i ≡ slot_at t i
  unfolding partly_at
  at_above l = rw (partly_at, le-ltb i n l)

module _ (u : List ℕ) (i : ℕ) where
  pub brought_unused : marked (slot_at u i) ≡ false → brought u i ≡ u
  unfolding brought
  brought_unused e = rw (brought, e)

  pub brought_used : marked (slot_at u i) ≡ true → brought u i ≡ brought_at u i (lowest (has_address (form_of (slot_at u i))) u 0 i)
  unfolding brought
  brought_used e = rw (brought, e)

-- a table that was sound by the old rule
module _ (t : List ℕ) (w : TableBy Ascii t) (o : AllOctets t) where
  module _ (n : ℕ) (m : n ≤ slots t) where
    each_long : (i : ℕ) → i < slots t → length (partly_at t n i) ≡ slot_length
    each_long i l =
        ⊎_elim (λ (b : i < n). rw (at_below t n i b) (converted_long t w o n i b m)) (λ (b : n ≤ i). rw (at_above t n i b) (slotwise.slot_long t i l)) (lt_or_le i n)

    pub partly_long : length (partly t n) ≡ slots t * 4392
    unfolding partly
    partly_long = table_long (partly_at t n) (slots t) each_long

    pub partly_slots : slots (partly t n) ≡ slots t
    partly_slots = slots_of (partly t n) (slots t) partly_long

    partly_at_lem : (i : ℕ) → i < slots t → slot_at (partly t n) i ≡ partly_at t n i
    unfolding partly
    partly_at_lem i l = table_at (partly_at t n) (slots t) each_long i l

    pub partly_below : (i : ℕ) → i < n → slot_at (partly t n) i ≡ converted_at t n i
    partly_below i l = partly_at_lem i (omega arith) ∙ at_below t n i l

    pub partly_above : (i : ℕ) → n ≤ i → i < slots t → slot_at (partly t n) i ≡ slot_at t i
    partly_above i l k = partly_at_lem i k ∙ at_above t n i l

  pub partly_none : partly t 0 ≡ t
  unfolding partly
  partly_none = sym (table_is (partly_at t 0) (slots t) t (whole_long t w.whole_slots) (λ i l. sym (at_above t 0 i (omega arith))))

  pub partly_all : partly t (slots t) ≡ converted t
  unfolding partly converted
  partly_all = table_same (partly_at t (slots t)) (converted_at t (slots t)) (slots t) (λ i l. at_below t (slots t) i l)

  -- slot n is the next
  module _ (n : ℕ) (m : n < slots t) where
    low : n ≤ slots t
    low = omega arith

    here : slot_at (partly t n) n ≡ slot_at t n
    here = partly_above n low n (omega arith) m

    room : n < slots (partly t n)
    room = rw (partly_slots n low) m

    -- a table that is converted up to there
    next_is : (v : List ℕ) → length v ≡ slots t * 4392 → ((k : ℕ) → k < n → slot_at v k ≡ converted_at t (suc n) k)
        → slot_at v n ≡ converted_at t (suc n) n → ((k : ℕ) → n < k → k < slots t → slot_at v k ≡ slot_at t k) → v ≡ partly t (suc n)
    unfolding partly
    next_is v l below at above =
        table_is (partly_at t (suc n)) (slots t) v l
        (λ k b.
        ⊎_elim (λ (c : k < n). below k c ∙ sym (at_below t (suc n) k (omega arith)))
        (λ (c : n ≤ k).
        ⊎_elim (λ (d : n < k). above k d b ∙ sym (at_above t (suc n) k (omega arith)))
        (λ (d : k ≤ n). let q : k ≡ n = omega arith in rw q (at ∙ sym (at_below t (suc n) n (omega arith))))
        (lt_or_le n k))
        (lt_or_le k n))

    -- a lower slot stays, unless it leads the group of slot n
    stays : (k : ℕ) → k < n → (leads t k ≡ true → has_form (form_of (slot_at t k)) (slot_at t n) ≡ false) → converted_at t n k ≡ converted_at t (suc n) k
    stays k l h =
        by_test (leads t k)
        (λ e. leads_slot t n k e ∙ ap slot_for (sym (gathered_past (form_of (slot_at t k)) t n (h e))) ∙ sym (leads_slot t (suc n) k e))
        (λ e. follows_free t n k e ∙ sym (follows_free t (suc n) k e))

    module _ (e : marked (slot_at t n) ≡ false) where
      next_free : partly t n ≡ partly t (suc n)
      next_free =
          next_is (partly t n) (partly_long n low)
          (λ k l.
          partly_below n low k l
          ∙ stays k l
          (λ _.
          by_test (has_form (form_of (slot_at t k)) (slot_at t n))
          (λ h. absurd (false≢true (sym e ∙ form_used (form_of (slot_at t k)) (slot_at t n) h)))
          (λ h. h)))
          (here ∙ free_is (slot_at t n) (slotwise.slot_long t n m) (unused_free t w n m e) ∙ sym (follows_free t (suc n) n (unused_follows t n e)))
          (λ k l b. partly_above n low k (omega arith) b)

    module _ (e : marked (slot_at t n) ≡ true) where
      -- the form of slot n, and where it stands
      abbrev form : List ℕ
      form = form_of (slot_at t n)

      place : lowest (has_address form) (partly t n) 0 n ≡ lowest (has_form form) t 0 n
      place = lowest_form t w o n n (omega arith) low (partly t n) form (λ i l. partly_below n low i l)

      module _ (none_lower : lowest (has_form form) t 0 n ≡ None) where
        no_lower : (k : ℕ) → k < n → has_form form (slot_at t k) ≡ false
        no_lower k l = lowest_nothing (has_form form) t 0 n none_lower k (omega arith) (omega arith)

        long : length (slot_of (renamed form (entry_of (slot_at t n)))) ≡ slot_length
        long = slot_long (renamed form (entry_of (slot_at t n))) (form_good t w o n m e)

        first_here : slot_of (renamed form (entry_of (slot_at t n))) ≡ converted_at t (suc n) n
        unfolding joined slot_for
        first_here =
            sym
            (leads_slot t (suc n) n (first_leads t n e no_lower)
            ∙ ap slot_for
            (gathered_on form t n (form_has form (slot_at t n) e refl)
            ∙ ap (λ (x : Option Entry). Some (joined x (renamed form (entry_of (slot_at t n))))) (gathered_none form t n no_lower)))

        next_first : with_slot (partly t n) n (slot_of (renamed form (entry_of (slot_at t n)))) ≡ partly t (suc n)
        next_first =
            next_is (with_slot (partly t n) n (slot_of (renamed form (entry_of (slot_at t n)))))
            (slotwise.length_kept (partly t n) (slot_of (renamed form (entry_of (slot_at t n)))) n room long ∙ partly_long n low)
            (λ k l.
            slotwise.slot_other (partly t n) (slot_of (renamed form (entry_of (slot_at t n)))) n room long k (λ q. omega arith)
            ∙ partly_below n low k l
            ∙ stays k l
            (λ h.
            by_test (has_form (form_of (slot_at t k)) (slot_at t n))
            (λ q. absurd (false≢true (sym (no_lower k l) ∙ form_has form (slot_at t k) (leads_used t k h) (sym (form_is (form_of (slot_at t k)) (slot_at t n) q)))))
            (λ q. q)))
            (slotwise.slot_same (partly t n) (slot_of (renamed form (entry_of (slot_at t n)))) n room long ∙ first_here)
            (λ k l b.
            slotwise.slot_other (partly t n) (slot_of (renamed form (entry_of (slot_at t n)))) n room long k (λ q. omega arith)
            ∙ partly_above n low k (omega arith) b)

      module _ (j : ℕ) (lower : lowest (has_form form) t 0 n ≡ Some j) where
        below : j < n
        below = omega (arith, (lowest_at (has_form form) t 0 n j lower).below)

        leading : leads t j ≡ true
        leading = first_form t w o n n (omega arith) low (partly t n) form (λ i l. partly_below n low i l) j lower

        shared : form_of (slot_at t j) ≡ form
        shared = form_is form (slot_at t j) (lowest_at (has_form form) t 0 n j lower).passes

        x : Led t n j
        x = led t w o n j below low leading

        entry_there : entry_of (slot_at (partly t n) j) ≡ x.entry
        entry_there = ap entry_of (partly_below n low j below ∙ x.slot) ∙ entry_back x.entry x.good

        abbrev both : Entry
        both = merged x.entry (entry_of (slot_at t n))

        both_good : Good both
        both_good =
            good_merged x.entry (entry_of (slot_at t n)) x.good
            (subst (λ (b : List ℕ). Good (renamed b (entry_of (slot_at t n)))) (sym (x.whose ∙ shared)) (form_good t w o n m e))

        both_long : length (slot_of both) ≡ slot_length
        both_long = slot_long both both_good

        -- slot n is freed first
        abbrev freed : List ℕ
        freed = with_slot (partly t n) n free_slot

        freed_slots : slots freed ≡ slots t
        freed_slots = slotwise.slots_kept (partly t n) free_slot n room free_long ∙ partly_slots n low

        freed_room : j < slots freed
        freed_room = rw freed_slots (omega (arith, below))

        unchanged : (k : ℕ) → (k ≡ n → ⊥) → (k ≡ j → ⊥) → slot_at (with_slot freed j (slot_of both)) k ≡ slot_at (partly t n) k
        unchanged k p q =
            slotwise.slot_other freed (slot_of both) j freed_room both_long k q ∙ slotwise.slot_other (partly t n) free_slot n room free_long k p

        -- what slot j holds then
        merged_there : slot_of both ≡ converted_at t (suc n) j
        unfolding joined slot_for merged renamed
        merged_there =
            sym
            (leads_slot t (suc n) j leading
            ∙ ap slot_for
            (gathered_on (form_of (slot_at t j)) t n (form_has (form_of (slot_at t j)) (slot_at t n) e (sym shared))
            ∙ ap (λ (y : Option Entry). Some (joined y (renamed (form_of (slot_at t j)) (entry_of (slot_at t n))))) x.is))

        next_merged : with_slot freed j (slot_of both) ≡ partly t (suc n)
        next_merged =
            next_is (with_slot freed j (slot_of both))
            (slotwise.length_kept freed (slot_of both) j freed_room both_long ∙ slotwise.length_kept (partly t n) free_slot n room free_long ∙ partly_long n low)
            (λ k l.
            by_test (eqb k j)
            (λ q. let p : k ≡ j = eqb-true k j q in rw p (slotwise.slot_same freed (slot_of both) j freed_room both_long ∙ merged_there))
            (λ q.
            unchanged k (λ z. omega arith) (eqb-false k j q)
            ∙ partly_below n low k l
            ∙ stays k l
            (λ h.
            by_test (has_form (form_of (slot_at t k)) (slot_at t n))
            (λ y. absurd (eqb-false k j q (leader_one t k j h leading (sym (form_is (form_of (slot_at t k)) (slot_at t n) y) ∙ sym shared))))
            (λ y. y))))
            (slotwise.slot_other freed (slot_of both) j freed_room both_long n (λ z. omega (arith, below))
            ∙ slotwise.slot_same (partly t n) free_slot n room free_long
            ∙ sym (follows_free t (suc n) n (lower_follows t n j below (lowest_at (has_form form) t 0 n j lower).passes)))
            (λ k l b. unchanged k (λ z. omega arith) (λ z. omega (arith, below)) ∙ partly_above n low k (omega arith) b)

    pub brought_next : brought (partly t n) n ≡ partly t (suc n)
    unfolding brought_at
    brought_next =
        by_test (marked (slot_at t n))
        (λ e.
        brought_used (partly t n) n (ap marked here ∙ e)
        ∙ by_found (lowest (has_form (form_of (slot_at t n))) t 0 n)
        (λ j q. rw (here, place e, q, entry_there e j q, here) (next_merged e j q))
        (λ q. rw (here, place e, q, here) (next_first e q)))
        (λ e. brought_unused (partly t n) n (ap marked here ∙ e) ∙ next_free e)
