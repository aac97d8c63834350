-- Groups of slots with one form (T17), in a table that was sound by the old rule.
--     form_used, form_is, form_has     a slot of a form
--     form_good                        its entry is good under that form
--     gathered_on, gathered_past       one slot more
--     gathered_some .. gathered_only   what the first n slots have of a form: something, nothing, the entry of the one slot that has it
--     leads_first, first_leads         the lowest slot of a group
--     leader_one                       a group has one
-- Assumes nothing.
use Prim.Native.Nat.{ℕ, zero, suc, ◌<◌, ◌≤◌}
use mathlib.Core.Path.{◌≡◌, refl, sym, subst, ◌∙◌}
use mathlib.Core.Logic.{⊎_elim}
use mathlib.Core.Bool.{true, false, not, false≢true}
use mathlib.Core.List.{List}
use Rattle.std.specs.Prelude.{Option, Some, None}
use native.Mathlib.Omega.{arith}
use Rattle.octets.specs.Octets.{AllOctets, same_octets}
use Rattle.octets.specs.Options.{is_some, IfSome}
use Rattle.octets.proofs.Comparing.{same_true, same_refl}
use Rattle.octets.proofs.Lists.{lt_or_le}
use Rattle.octets.proofs.Tests.{and_left, and_right, by_test}
use Rattle.address.specs.Address.{plain, is_canonical}
use Rattle.address.proofs.Spelling.{canonical_octets, plain_is_canonical}
use Rattle.address.proofs.Ascii.{was_plain}
use Rattle.heads.specs.Entry.{Entry, renamed}
use Rattle.slots.specs.Slot.{address_of, marked, spelled}
use Rattle.slots.specs.Entry.{entry_of, Good}
use Rattle.slots.specs.Facts.{SoundBy}
use Rattle.slots.specs.declared.Spelling.TheVariants.{Ascii}
use Rattle.slots.proofs.Sounds.{sound_parts}
use Rattle.slots.proofs.Goodness.{good_renamed, address_octets}
use Rattle.table.specs.Table.{slots, slot_at, lowest, is_at}
use Rattle.table.specs.Slotwise.{TableBy}
use Rattle.table.proofs.Slots.{slot_long, slot_octets}
use Rattle.table.proofs.Lowest.{by_found}
use Rattle.table.proofs.Finding.{lowest_nothing, lowest_none}
use Rattle.table.proofs.Keeping.{used_sound}
use Rattle.merge.specs.Merging.{merged}
use Rattle.merge.proofs.Later.{good_merged}
use Rattle.convert.specs.Converting.{form_of, has_form, joined, gathered, leads}

module _ (a s : List ℕ) where
  pub form_used : has_form a s ≡ true → marked s ≡ true
  unfolding has_form
  form_used h = and_left (marked s) (same_octets (form_of s) a) h

  pub form_is : has_form a s ≡ true → form_of s ≡ a
  unfolding has_form
  form_is h = same_true (form_of s) a (and_right (marked s) (same_octets (form_of s) a) h)

  pub form_has : marked s ≡ true → form_of s ≡ a → has_form a s ≡ true
  unfolding has_form
  form_has m e = rw (m, e) (same_refl a)

-- one slot more
module _ (a t : List ℕ) (n : ℕ) where
  pub gathered_on : has_form a (slot_at t n) ≡ true → gathered a t (suc n) ≡ Some (joined (gathered a t n) (renamed a (entry_of (slot_at t n))))
  unfolding gathered
  gathered_on h = rw (gathered, h)

  pub gathered_past : has_form a (slot_at t n) ≡ false → gathered a t (suc n) ≡ gathered a t n
  unfolding gathered
  gathered_past h = rw (gathered, h)

module _ (a t : List ℕ) where
  pub gathered_some : (n k : ℕ) → k < n → has_form a (slot_at t k) ≡ true → is_some (gathered a t n) ≡ true
  unfolding is_some
  gathered_some zero k l h = absurd (omega arith)
  gathered_some (suc n) k l h =
      by_test (has_form a (slot_at t n)) (λ e. rw (gathered_on a t n e))
      (λ e.
      rw (gathered_past a t n e)
      (⊎_elim (λ (m : k < n). gathered_some n k m h)
      (λ (m : n ≤ k). let q : n ≡ k = omega arith in absurd (false≢true (sym (rw q at e) ∙ h)))
      (lt_or_le k n)))

  pub gathered_none : (n : ℕ) → ((k : ℕ) → k < n → has_form a (slot_at t k) ≡ false) → gathered a t n ≡ None
  unfolding gathered
  gathered_none zero h = refl
  gathered_none (suc n) h = gathered_past a t n (h n (omega arith)) ∙ gathered_none n (λ k l. h k (omega arith))

  -- where one slot has the form, that is all there is
  pub gathered_only : (n i : ℕ) → i < n → has_form a (slot_at t i) ≡ true → ((k : ℕ) → k < n → (k ≡ i → ⊥) → has_form a (slot_at t k) ≡ false)
      → gathered a t n ≡ Some (renamed a (entry_of (slot_at t i)))
  unfolding joined
  gathered_only zero i l h others = absurd (omega arith)
  gathered_only (suc n) i l h others =
      ⊎_elim
      (λ (m : i < n). gathered_past a t n (others n (omega arith) (λ q. omega arith)) ∙ gathered_only n i m h (λ k b d. others k (omega arith) d))
      (λ (m : n ≤ i).
      let q : i ≡ n = omega arith in
      gathered_on a t n (rw q at h)
      ∙ rw (gathered_none n (λ k b. others k (omega arith) (λ z. omega arith)), q))
      (lt_or_le i n)

-- the lowest slot of a group
module _ (t : List ℕ) where
  pub leads_used : (i : ℕ) → leads t i ≡ true → marked (slot_at t i) ≡ true
  unfolding leads
  leads_used i e = and_left (marked (slot_at t i)) (not (is_at (lowest (has_form (form_of (slot_at t i))) t 0 i))) e

  pub leads_first : (i : ℕ) → leads t i ≡ true → (k : ℕ) → k < i → has_form (form_of (slot_at t i)) (slot_at t k) ≡ false
  unfolding leads
  leads_first i e k l =
      by_found (lowest (has_form (form_of (slot_at t i))) t 0 i)
      (λ j f.
      let z : not (is_at (lowest (has_form (form_of (slot_at t i))) t 0 i)) ≡ true =
      and_right (marked (slot_at t i)) (not (is_at (lowest (has_form (form_of (slot_at t i))) t 0 i))) e in
      absurd (false≢true (rw f at z)))
      (λ f. lowest_nothing (has_form (form_of (slot_at t i))) t 0 i f k (omega arith) (omega arith))

  pub first_leads : (i : ℕ) → marked (slot_at t i) ≡ true → ((k : ℕ) → k < i → has_form (form_of (slot_at t i)) (slot_at t k) ≡ false) → leads t i ≡ true
  unfolding leads
  first_leads i m h = rw (m, lowest_none (has_form (form_of (slot_at t i))) t 0 i (λ k b l. h k (omega arith)))

  pub unused_follows : (i : ℕ) → marked (slot_at t i) ≡ false → leads t i ≡ false
  unfolding leads
  unused_follows i m = rw m

  pub lower_follows : (i k : ℕ) → k < i → has_form (form_of (slot_at t i)) (slot_at t k) ≡ true → leads t i ≡ false
  lower_follows i k l h = by_test (leads t i) (λ e. absurd (false≢true (sym (leads_first i e k l) ∙ h))) (λ e. e)

  -- a group has one lowest slot
  pub leader_one : (i k : ℕ) → leads t i ≡ true → leads t k ≡ true → form_of (slot_at t i) ≡ form_of (slot_at t k) → i ≡ k
  leader_one i k p q e =
      ⊎_elim (λ (l : i < k). absurd (lower i k p q e l))
      (λ (l : k ≤ i). ⊎_elim (λ (m : k < i). absurd (lower k i q p (sym e) m)) (λ (m : i ≤ k). omega arith) (lt_or_le k i))
      (lt_or_le i k)
    where
      lower : (x y : ℕ) → leads t x ≡ true → leads t y ≡ true → form_of (slot_at t x) ≡ form_of (slot_at t y) → x < y → ⊥
      lower x y px py exy l =
          false≢true (sym (leads_first y py x l) ∙ form_has (form_of (slot_at t y)) (slot_at t x) (leads_used x px) exy)

-- a table that was sound by the old rule
module _ (t : List ℕ) (w : TableBy Ascii t) (o : AllOctets t) where
  module _ (i : ℕ) (l : i < slots t) (m : marked (slot_at t i) ≡ true) where
    old_parts : SoundBy Ascii (slot_at t i)
    old_parts = sound_parts (slot_at t i) (used_sound t w i l m).0

    old_plain : plain (address_of (slot_at t i)) ≡ true
    unfolding spelled
    old_plain = was_plain (address_of (slot_at t i)) old_parts.address

    pub form_canonical : is_canonical (form_of (slot_at t i)) ≡ true
    unfolding form_of
    form_canonical = plain_is_canonical (address_of (slot_at t i)) old_plain

    pub form_octets : AllOctets (form_of (slot_at t i))
    unfolding form_of
    form_octets = canonical_octets (address_of (slot_at t i)) (address_octets (slot_at t i) (slot_octets t i o))

    pub form_good : Good (renamed (form_of (slot_at t i)) (entry_of (slot_at t i)))
    form_good =
        good_renamed (slot_at t i) (slot_long t i l) old_parts (slot_octets t i o) (form_of (slot_at t i)) form_canonical form_octets

  -- what the first n slots have of a form is a good entry of it
  abbrev GoodOf : List ℕ → Entry → Type 0
  GoodOf a e = Good e × (e.address ≡ a)

  joined_good : (a : List ℕ) (m : Option Entry) (e : Entry) → IfSome (GoodOf a) m → Good (renamed a e) → GoodOf a (joined m (renamed a e))
  unfolding joined renamed merged
  joined_good a None e h g = (g, refl)
  joined_good a (Some x) e h g = (good_merged x (renamed a e) h.0 (rw h.1 g), h.1)

  pub gathered_good : (a : List ℕ) (n : ℕ) → n ≤ slots t → IfSome (GoodOf a) (gathered a t n)
  unfolding gathered
  gathered_good a zero l = tt
  gathered_good a (suc n) l =
      by_test (has_form a (slot_at t n))
      (λ e.
      rw (gathered_on a t n e)
      (joined_good a (gathered a t n) (entry_of (slot_at t n)) (gathered_good a n (omega arith))
      (subst (λ (b : List ℕ). Good (renamed b (entry_of (slot_at t n)))) (form_is a (slot_at t n) e) (form_good n (omega arith) (form_used a (slot_at t n) e)))))
      (λ e. rw (gathered_past a t n e) (gathered_good a n (omega arith)))
