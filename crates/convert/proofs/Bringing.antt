-- One step of the code: a slot is merged into a lower one, or gets its form in its own place (T17).
--     copied                        the octets of slot i, copied
--     absorb_within .. absorbed     merging it into slot j
--     settle_seeks .. settled_own   where its form stands, and what is done
--     form_never .. form_brought    its form, made in a buffer
--     bring_free, bring_used        slot i as a whole
--     the rulesets                  absorbing, settling, bringing_used and bringing, for the functions of these names
-- Assumes nothing.
use Rattle.std.specs.Prelude.{Option, Some, None}
use Prim.Native.Nat.{ℕ, ◌+◌, ◌-◌, ◌*◌, ◌<◌, ◌≤◌}
use mathlib.Core.Path.{◌≡◌, sym, ap, ◌∙◌}
use mathlib.Core.Bool.{Bool, true, false}
use mathlib.Core.List.{List, ◌++◌}
use native.Mathlib.Omega.{arith}
use borrow.Author.Rules.{rules}
use lib.ListN.{length, take, drop}
use Rattle.address.specs.Address.{plain, canonical}
use Rattle.address.specs.Answers.{written_of, onto_if_fits}
use Rattle.address.proofs.Spelling.{canonical_most}
use Rattle.address.proofs.Ascii.{was_plain}
use Rattle.address.proofs.Forming as forming
use Rattle.heads.specs.Entry.{renamed}
use Rattle.slots.specs.Slot.{slot_length, address_room, free_slot, address_of, marked, spelled, sound_by}
use Rattle.slots.specs.Entry.{entry_of, slot_of}
use Rattle.slots.specs.declared.Spelling.TheVariants.{Ascii}
use Rattle.slots.proofs.Sounds.{sound_parts}
use Rattle.tags.specs.Tags.{tag_of}
use Rattle.table.specs.Table.{slots, slot_at, with_slot, has_address, lowest}
use Rattle.table.proofs.Slots as slotwise
use Rattle.table.proofs.Finding.{lowest_at, has_used}
use Rattle.lookup.specs.Looking.{Seeks}
use Rattle.merge.specs.Merging.{merged}
use Rattle.merge.specs.Steps.{Merges}
use Rattle.convert.specs.Converting.{form_of}
use Rattle.convert.specs.Steps.{brought_at, brought, Brings, Settles, Absorbs}
use Rattle.convert.proofs.Tables.{free_long}
use Rattle.convert.proofs.Stepwise as stepwise

-- slot i is merged into slot j
module _ (t : List ℕ) (j i : ℕ) (h : Absorbs t j i) where
  -- its octets, copied
  copied : (s x : List ℕ) → (s ≡ slot_at t i) × (length s ≡ slot_length) → x ≡ s → x ≡ slot_at t i
  copied s x e p = p ∙ e.0

  -- and it is freed
  module _ (u : List ℕ) (eu : u ≡ with_slot t i free_slot) where
    still : slots u ≡ slots t
    still = ap slots eu ∙ slotwise.slots_kept t free_slot i h.within free_long

    pub absorb_within : j < slots u
    absorb_within = omega (arith, still, h.within, h.lower)

    pub absorb_end : j * 4392 + 4392 ≤ length u
    absorb_end = slotwise.room u j absorb_within

    other_slot : slot_at u j ≡ slot_at t j
    other_slot = ap (λ (v : List ℕ). slot_at v j) eu ∙ slotwise.slot_other t free_slot i h.within free_long j (λ q. omega (arith, h.lower))

    -- the slot that is lent on
    part : take (j * 4392 + 4392 - j * 4392) (drop (j * 4392) u) ≡ slot_at t j
    part = slotwise.part_is u j absorb_within ∙ other_slot

    module _ (s x : List ℕ) (es : (s ≡ slot_at t i) × (length s ≡ slot_length)) (ex : x ≡ s) where
      pub absorb_merges : Merges (take (j * 4392 + 4392 - j * 4392) (drop (j * 4392) u)) x
      absorb_merges =
          record {
            long = slotwise.part_long u j absorb_within;
            is_sound = rw part h.is_sound;
            other_long = ap length (copied s x es ex) ∙ slotwise.slot_long t i h.within;
            was_sound = rw (copied s x es ex) h.was_sound;
          }

      pub absorbed : (w : List ℕ) → length w ≡ length (take (j * 4392 + 4392 - j * 4392) (drop (j * 4392) u))
          → w ≡ slot_of (merged (entry_of (take (j * 4392 + 4392 - j * 4392) (drop (j * 4392) u))) (entry_of x))
          → take (j * 4392) u ++ (w ++ drop (j * 4392 + 4392 - j * 4392) (drop (j * 4392) u)) ≡ brought_at t i (Some j)
      unfolding brought_at
      absorbed w k e = slotwise.put_slot u j absorb_within w k ∙ rw (e, part, copied s x es ex, eu)

pub ruleset absorbing = (absorb_end, absorb_merges, absorbed, rules)

-- the used slot i, whose form is a
module _ (t tags a : List ℕ) (i : ℕ) (h : Settles t tags i a) where
  old : sound_by Ascii (slot_at t i) ≡ true
  old = h.brings.was_sound h.used

  pub settle_seeks : (tag : ℕ) → tag ≡ tag_of a → Seeks t tags a tag i
  settle_seeks tag e = record { within = omega (arith, h.brings.within); tagged = h.brings.tagged; own = e }

  pub settle_within : i < slots t
  settle_within = h.brings.within

  pub settle_old : sound_by Ascii (slot_at t i) ≡ true
  settle_old = old

  pub settle_room : length a ≤ address_room
  unfolding form_of spelled
  settle_room =
      rw h.own
      (omega (arith, canonical_most (address_of (slot_at t i)) (was_plain (address_of (slot_at t i)) (sound_parts (slot_at t i) old).address)))

  module _ (f : Option ℕ) (ef : f ≡ lowest (has_address a) t 0 i) where
    module _ (j : ℕ) (q : f ≡ Some j) where
      pub settle_absorbs : Absorbs t j i
      settle_absorbs =
          let r = lowest_at (has_address a) t 0 i j (sym ef ∙ q) in
          let b : j < i = omega (arith, r.below) in
          record {
            within = h.brings.within;
            few = h.brings.few;
            lower = b;
            is_sound = h.brings.lower j b (has_used a (slot_at t j) r.passes);
            was_sound = old;
          }

      pub settled_lower : (out : List ℕ) → out ≡ brought_at t i (Some j) → out ≡ brought_at t i (lowest (has_address a) t 0 i)
      settled_lower out e = e ∙ ap (brought_at t i) (sym q ∙ ef)

    pub settled_own : f ≡ None → (out : List ℕ) → out ≡ with_slot t i (slot_of (renamed a (entry_of (slot_at t i))))
        → out ≡ brought_at t i (lowest (has_address a) t 0 i)
    unfolding brought_at
    settled_own q out e = e ∙ ap (λ (b : List ℕ). with_slot t i (slot_of (renamed b (entry_of (slot_at t i))))) h.own ∙ ap (brought_at t i) (sym q ∙ ef)

pub ruleset settling = (settle_seeks, settle_within, settle_old, settle_room, settle_absorbs, settled_lower, settled_own, rules)

-- the used slot i, and its form in a buffer b, which is then `out`
module _ (t tags : List ℕ) (i : ℕ) (h : Brings t tags i) (used : marked (slot_at t i) ≡ true) (s : List ℕ) (es : s ≡ address_of (slot_at t i)) where
  pub plainly : plain s ≡ true
  unfolding spelled
  plainly = ap plain es ∙ was_plain (address_of (slot_at t i)) (sound_parts (slot_at t i) (h.was_sound used)).address

  module _ (g : Option ℕ) (e : g ≡ written_of (canonical s) 256) where
    pub form_never : g ≡ None → t ≡ brought t i
    form_never r = absurd (forming.form_never s plainly 256 (omega arith) g e r)

    module _ (n : ℕ) (r : g ≡ Some n) (b out : List ℕ) (o : out ≡ onto_if_fits (canonical s) b) (l : length b ≡ 256) where
      pub form_end : n ≤ length out
      form_end = forming.form_end s plainly 256 (omega arith) g e n r b out o l

      form : take n out ≡ form_of (slot_at t i)
      unfolding form_of
      form =
          let there : take n out ≡ canonical s = grind (arith, forming.form_there s plainly 256 (omega arith) g e n r b out o l) in
          there ∙ ap canonical es

      pub form_settles : Settles t tags i (take n out)
      form_settles = record { brings = h; used = used; own = form }

      pub form_brought : (v : List ℕ) → v ≡ brought_at t i (lowest (has_address (take n out)) t 0 i) → v ≡ brought t i
      form_brought v ev = ev ∙ rw form (sym (stepwise.brought_used t i used))

pub ruleset bringing_used = (plainly, form_never, form_end, form_settles, form_brought, rules)

-- slot i, used or not
module _ (t : List ℕ) (i : ℕ) (m : Bool) where
  pub bring_free : m ≡ false → m ≡ marked (slot_at t i) → t ≡ brought t i
  bring_free q em = sym (stepwise.brought_unused t i (sym em ∙ q))

  pub bring_used : m ≡ true → m ≡ marked (slot_at t i) → marked (slot_at t i) ≡ true
  bring_used q em = sym em ∙ q

pub ruleset bringing = (bring_free, bring_used, rules)
