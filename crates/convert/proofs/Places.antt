-- The slots of a converted table (T17), where the first n are converted.
--     Led, led                 the lowest slot of a group holds a good entry of its form
--     follows_free             each other slot is free
--     converted_long           either has 4,392 octets
--     has_led, has_not         whose address stands in it
--     lowest_form              an address stands in the lowest slot that had it for its form
-- Assumes nothing.
use Prim.Native.Nat.{ℕ, ◌<◌, ◌≤◌}
use mathlib.Core.Path.{◌≡◌, refl, sym, ap, ◌∙◌}
use mathlib.Core.Bool.{true, false, false≢true}
use mathlib.Core.List.{List}
use Rattle.std.specs.Prelude.{Option, Some, None}
use native.Mathlib.Omega.{arith}
use lib.ListN.{length}
use Rattle.octets.specs.Octets.{AllOctets, same_octets}
use Rattle.octets.specs.Options.{is_some, IfSome}
use Rattle.octets.proofs.Comparing.{same_true}
use Rattle.octets.proofs.Tests.{by_test}
use Rattle.heads.specs.Entry.{Entry}
use Rattle.slots.specs.Slot.{slot_length, free_slot, marked}
use Rattle.slots.specs.Entry.{slot_of, Good}
use Rattle.slots.specs.declared.Spelling.TheVariants.{Ascii}
use Rattle.slots.proofs.Made.{slot_long}
use Rattle.table.specs.Table.{slots, slot_at, has_address, lowest}
use Rattle.table.specs.Slotwise.{TableBy}
use Rattle.table.proofs.Lowest.{by_found, lowest_is}
use Rattle.table.proofs.Finding.{lowest_at, lowest_nothing, lowest_none}
use Rattle.table.proofs.Replaced.{made_has, made_has_not}
use Rattle.convert.specs.Converting.{form_of, has_form, gathered, leads, slot_for, converted_at}
use Rattle.convert.proofs.Tables.{free_long}
use Rattle.convert.proofs.Groups.{form_used, form_is, form_has, gathered_some, leads_used, first_leads, gathered_good}

-- the lowest slot of a group, and the entry in it
pub record Led (t : List ℕ) (n i : ℕ) : Type 0 where
  pub entry : Entry
  pub is : gathered (form_of (slot_at t i)) t n ≡ Some entry
  pub good : Good entry
  pub whose : entry.address ≡ form_of (slot_at t i)
  pub slot : converted_at t n i ≡ slot_of entry

module _ (t : List ℕ) (n i : ℕ) where
  pub leads_slot : leads t i ≡ true → converted_at t n i ≡ slot_for (gathered (form_of (slot_at t i)) t n)
  unfolding converted_at
  leads_slot e = rw (converted_at, e)

  pub follows_free : leads t i ≡ false → converted_at t n i ≡ free_slot
  unfolding converted_at slot_for
  follows_free e = rw (converted_at, e)

pub free_unused : marked free_slot ≡ false
unfolding marked same_octets
free_unused = refl

pub free_has_not : (a : List ℕ) → has_address a free_slot ≡ false
unfolding has_address
free_has_not a = rw free_unused

-- a table that was sound by the old rule
module _ (t : List ℕ) (w : TableBy Ascii t) (o : AllOctets t) where
  module _ (n i : ℕ) (l : i < n) (m : n ≤ slots t) where
    -- by what was gathered for a slot that leads
    led_by : (x : Option Entry) → gathered (form_of (slot_at t i)) t n ≡ x → is_some x ≡ true → IfSome (λ e. Good e × (e.address ≡ form_of (slot_at t i))) x
        → leads t i ≡ true → Led t n i
    unfolding is_some slot_for
    led_by None e s g h = absurd (false≢true s)
    led_by (Some x) e s g h = record { entry = x; is = e; good = g.0; whose = g.1; slot = leads_slot t n i h ∙ ap slot_for e }

    pub led : leads t i ≡ true → Led t n i
    led h =
        led_by (gathered (form_of (slot_at t i)) t n) refl
        (gathered_some (form_of (slot_at t i)) t n i l (form_has (form_of (slot_at t i)) (slot_at t i) (leads_used t i h) refl))
        (gathered_good t w o (form_of (slot_at t i)) n m) h

    pub converted_long : length (converted_at t n i) ≡ slot_length
    converted_long =
        by_test (leads t i) (λ h. let x = led h in rw x.slot (slot_long x.entry x.good))
        (λ h. rw (follows_free t n i h) free_long)

    pub has_led : leads t i ≡ true → has_address (form_of (slot_at t i)) (converted_at t n i) ≡ true
    has_led h = let x = led h in rw (x.slot, ← x.whose) (made_has x.entry x.good)

    pub has_not : (a : List ℕ) → has_form a (slot_at t i) ≡ false → has_address a (converted_at t n i) ≡ false
    has_not a f =
        by_test (leads t i)
        (λ h.
        let x = led h in
        rw x.slot
        (made_has_not x.entry x.good a
        (by_test (same_octets x.entry.address a)
        (λ e.
        let q : form_of (slot_at t i) ≡ a = sym x.whose ∙ same_true x.entry.address a e in
        absurd (false≢true (sym f ∙ form_has a (slot_at t i) (leads_used t i h) q)))
        (λ e. e))))
        (λ h. rw (follows_free t n i h) (free_has_not a))

  -- u has these slots in front
  module _ (n k : ℕ) (l : k ≤ n) (m : n ≤ slots t) (u a : List ℕ) (h : (i : ℕ) → i < k → slot_at u i ≡ converted_at t n i) where
    pub first_form : (j : ℕ) → lowest (has_form a) t 0 k ≡ Some j → leads t j ≡ true
    first_form j e =
        let r = lowest_at (has_form a) t 0 k j e in
        let q : form_of (slot_at t j) ≡ a = form_is a (slot_at t j) r.passes in
        first_leads t j (form_used a (slot_at t j) r.passes) (λ i b. rw q (r.first i (omega arith) b))

    pub lowest_form : lowest (has_address a) u 0 k ≡ lowest (has_form a) t 0 k
    lowest_form =
        by_found (lowest (has_form a) t 0 k)
        (λ j e.
        let r = lowest_at (has_form a) t 0 k j e in
        let q : form_of (slot_at t j) ≡ a = form_is a (slot_at t j) r.passes in
        lowest_is (has_address a) u 0 k j (omega arith) r.below
        (rw (h j (omega (arith, r.below)), ← q) (has_led n j (omega (arith, r.below)) m (first_form j e)))
        (λ i b c. rw (h i (omega (arith, r.below))) (has_not n i (omega (arith, r.below)) m a (r.first i b c)))
        ∙ sym e)
        (λ e.
        lowest_none (has_address a) u 0 k
        (λ i b c. rw (h i (omega arith)) (has_not n i (omega arith) m a (lowest_nothing (has_form a) t 0 k e i b c)))
        ∙ sym e)
