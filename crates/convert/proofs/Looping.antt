-- The loop over all slots (T17).
--     Going t u tags i             what it knows: the first i slots of t are converted in u, and have their tags
--     going_begin .. going_end     its steps
--     going_brings                 what a step asks for
--     the ruleset                  going, for `convert_slots`
-- Assumes nothing.
use Prim.Native.Nat.{ℕ, suc, ◌+◌, ◌<◌, ◌≤◌}
use mathlib.Core.Path.{◌≡◌, refl, sym, ap, ◌∙◌}
use mathlib.Core.Bool.{true, false, false≢true}
use mathlib.Core.List.{List}
use native.Mathlib.Omega.{arith}
use native.Mathlib.Numerals.{add-one}
use borrow.Author.Rules.{rules}
use mir.Syntax.{w8}
use mir.Val.{Fits}
use lib.ListN.{length, get_or, set}
use Rattle.octets.specs.Octets.{AllOctets}
use Rattle.octets.proofs.Lists.{given_octets}
use Rattle.octets.proofs.Tests.{by_test}
use Rattle.slots.specs.Slot.{marked, sound}
use Rattle.slots.specs.declared.Spelling.TheVariants.{Ascii}
use Rattle.slots.proofs.Made.{slot_sound, address_kept}
use Rattle.tags.specs.Tags.{tag_of}
use Rattle.table.specs.Table.{slots, slot_at}
use Rattle.table.specs.Slotwise.{TableBy}
use Rattle.table.specs.Tagged.{tag_at, TaggedTo, OpenBy}
use Rattle.table.proofs.Judging.{whole_few}
use Rattle.table.proofs.Keeping.{table_by, used_sound}
use Rattle.table.proofs.Replaced.{made_marked}
use Rattle.lookup.proofs.Checking.{tagged_next}
use Rattle.convert.specs.Converting.{form_of, leads, converted_at, converted}
use Rattle.convert.specs.Steps.{partly, brought, Brings}
use Rattle.convert.proofs.Tables.{whole_long}
use Rattle.convert.proofs.Places.{Led, led, follows_free, free_unused}
use Rattle.convert.proofs.Stepwise.{partly_long, partly_slots, partly_below, partly_above, partly_none, partly_all, brought_next}

pub record Going (t u tags : List ℕ) (i : ℕ) : Type 0 where
  pub so_far : u ≡ partly t i
  pub long : length u ≡ length t
  pub upto : i ≤ slots t
  pub tagged : TaggedTo u tags i

module _ (t first : List ℕ) (op : OpenBy Ascii t first) (g : (j : ℕ) → Fits w8 (get_or t j 0)) where
  old : TableBy Ascii t
  old = table_by Ascii t op.sound

  octets : AllOctets t
  octets = given_octets t g

  few : slots t ≤ 256
  few = whole_few t old.whole_slots

  pub going_begin : Going t t first 0
  going_begin =
      record {
        so_far = sym (partly_none t old octets);
        long = refl;
        upto = omega arith;
        tagged = record { few = omega arith; room = op.tagged.room; each = λ k l. absurd (omega arith) };
      }

  -- a slot that is converted keeps its tag as others follow
  module _ (i k : ℕ) (m : i ≤ slots t) (l : k < i) where
    below : slot_at (partly t i) k ≡ converted_at t i k
    below = partly_below t old octets i m k l

    tag_led : leads t k ≡ true → tag_at (partly t i) k ≡ tag_of (form_of (slot_at t k))
    unfolding tag_at
    tag_led h =
        let x : Led t i k = led t old octets i k l m h in
        rw (below, x.slot, made_marked x.entry x.good, address_kept x.entry x.good, x.whose)

    tag_free : leads t k ≡ false → tag_at (partly t i) k ≡ 0
    unfolding tag_at
    tag_free h = rw (below, follows_free t i k h, free_unused)

    lower_sound : marked (slot_at (partly t i) k) ≡ true → sound (slot_at (partly t i) k) ≡ true
    lower_sound e =
        by_test (leads t k) (λ h. let x : Led t i k = led t old octets i k l m h in rw (below, x.slot) (slot_sound x.entry x.good))
        (λ h. absurd (false≢true (sym free_unused ∙ ap marked (sym (below ∙ follows_free t i k h)) ∙ e)))

  tag_stays : (i k : ℕ) → i < slots t → k < i → tag_at (partly t (suc i)) k ≡ tag_at (partly t i) k
  tag_stays i k m l =
      by_test (leads t k) (λ h. tag_led (suc i) k (omega arith) (omega arith) h ∙ sym (tag_led i k (omega arith) l h))
      (λ h. tag_free (suc i) k (omega arith) (omega arith) h ∙ sym (tag_free i k (omega arith) l h))

  module _ (u tags : List ℕ) (i : ℕ) (h : Going t u tags i) where
    still : slots u ≡ slots t
    still = ap slots h.so_far ∙ partly_slots t old octets i h.upto

    module _ (n : ℕ) (en : n ≡ slots t) where
      pub going_brings : i < n → Brings u tags i
      going_brings l =
          let a : slot_at u i ≡ slot_at t i = ap (λ (v : List ℕ). slot_at v i) h.so_far ∙ partly_above t old octets i h.upto i (omega arith) (omega arith) in
          record {
            within = omega (arith, still);
            few = omega (arith, still, few);
            tagged = h.tagged;
            was_sound = λ e. rw a (used_sound t old i (omega arith) (ap marked (sym a) ∙ e)).0;
            lower = λ k b e. rw h.so_far (lower_sound i k h.upto b (ap (λ (v : List ℕ). marked (slot_at v k)) (sym h.so_far) ∙ e));
          }

      pub going_low : i < n → i < 256
      going_low l = omega (arith, few)

      -- one slot more: v is what the step left
      module _ (l : i < n) (v : List ℕ) (ev : v ≡ brought u i) where
        next : v ≡ partly t (suc i)
        next = ev ∙ ap (λ (x : List ℕ). brought x i) h.so_far ∙ brought_next t old octets i (omega arith)

        pub going_within : i < slots v
        going_within = rw (next, partly_slots t old octets (suc i) (omega arith)) (omega arith)

        kept : TaggedTo v tags i
        kept =
            record {
              few = h.tagged.few;
              room = h.tagged.room;
              each = λ k b. h.tagged.each k b ∙ rw (h.so_far, next) (sym (tag_stays i k (omega arith) b));
            }

        pub going_next : (tag : ℕ) → tag ≡ tag_at v i → Going t v (set tags i tag) (i + 1)
        going_next tag e =
            record {
              so_far = next ∙ ap (partly t) (sym (add-one i));
              long = ap length next ∙ partly_long t old octets (suc i) (omega arith) ∙ sym (whole_long t old.whole_slots);
              upto = omega arith;
              tagged = tagged_next v tags i tag kept (omega (arith, few)) e;
            }

      pub going_end : n ≤ i → u ≡ converted t
      going_end l =
          let q : i ≡ slots t = omega (arith, h.upto) in
          h.so_far ∙ ap (partly t) q ∙ partly_all t old octets

pub ruleset going = (going_begin, going_brings, going_low, going_within, going_next, going_end, rules)
