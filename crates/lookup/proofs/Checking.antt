-- R1 and R2: whether a slot is right, and the scan for the lowest that is not.
--     right_free .. right_used          the answers on one slot
--     lower_seeks .. lower_none         whether its address stands in a lower one
--     tagged_begin, tagged_next         the tags of no slot, and of one slot more
--     Judged how t n i                      the answer on n slots, at most 256, is that on those from i on
--     judge_begin .. judges_next        the loop's steps
--     checks_length .. checks_sound     the three answers, with the tags
--     the rulesets                      being_right, for `is_right`; looking_lower, for `in_lower`; judging, for `check`
-- Assumes nothing.
use Rattle.std.specs.Prelude.{Option, Some, None}
use Prim.Native.Nat.{ℕ, ◌+◌, ◌-◌, ◌<◌, ◌≤◌}
use mathlib.Core.Path.{◌≡◌, sym, ap, ◌∙◌}
use mathlib.Core.Logic.{⊎_elim}
use mathlib.Core.Bool.{Bool, true, false, not, or-false}
use mathlib.Core.List.{List}
use native.Mathlib.Nat.{sub-zero}
use native.Mathlib.Omega.{arith}
use borrow.Author.Rules.{rules}
use lib.ListN.{length, get_or, set, length-set}
use lib.Seq.{get_or-set_same, get_or-set_other}
use Rattle.octets.proofs.Lists.{lt_or_le, left_one}
use Rattle.slots.specs.Slot.{slot_length, marked, free, sound_by, address_of}
use Rattle.slots.specs.declared.Spelling.{Spelling}
use Rattle.slots.proofs.Sounds.{marked_not_free, unmarked_not_sound}
use Rattle.tags.specs.Tags.{tag_of}
use Rattle.table.specs.Table.{slots, slot_at, has_address, lowest, is_at, in_lower, right_by, whole, judged_by, checked_by}
use Rattle.table.specs.Tagged.{tag_at, TaggedTo}
use Rattle.table.specs.declared.Checked.TheVariants.{Sound, Length, Slot}
use Rattle.table.proofs.Judging.{judged_on, judged_here, checked_slots, checked_length, whole_few}
use Rattle.lookup.specs.Looking.{Seeks, Judges, Compares, Checks}

module _ (t s : List ℕ) (i : ℕ) (m : Bool) (e : (s ≡ slot_at t i) × (length s ≡ slot_length)) (p : m ≡ marked s) where
  used_by : marked (slot_at t i) ≡ m
  used_by = ap marked (sym e.0) ∙ sym p

  pub right_free : (how : Spelling) (b : Bool) → m ≡ false → b ≡ free s → b ≡ right_by how t i
  unfolding right_by
  right_free how b q f =
      let z : sound_by how (slot_at t i) ≡ false = unmarked_not_sound how (slot_at t i) (used_by ∙ q) in
      f ∙ rw (e.0, z) (sym (or-false (free (slot_at t i))))

  module _ (q : m ≡ true) where
    taken : free (slot_at t i) ≡ false
    taken = marked_not_free (slot_at t i) (used_by ∙ q)

    pub right_not : (how : Spelling) (b : Bool) → b ≡ sound_by how s → b ≡ false → false ≡ right_by how t i
    unfolding right_by
    right_not how b f n =
        let z : sound_by how (slot_at t i) ≡ false = ap (sound_by how) (sym e.0) ∙ sym f ∙ n in
        rw (taken, z)

    pub right_used : (how : Spelling) (b c : Bool) → b ≡ sound_by how s → b ≡ true → c ≡ in_lower t i → not c ≡ right_by how t i
    unfolding right_by
    right_used how b c f n r =
        let z : sound_by how (slot_at t i) ≡ true = ap (sound_by how) (sym e.0) ∙ sym f ∙ n in
        rw (taken, z, r)

    pub compares : (tags : List ℕ) → Judges t tags i → Compares t tags i
    compares tags j = record { within = j.within; tagged = j.tagged; used = used_by ∙ q }

pub ruleset being_right = (right_free, right_not, right_used, compares, rules)

-- the address of slot i, looked for in the lower slots
module _ (t tags a : List ℕ) (i : ℕ) (ea : a ≡ address_of (slot_at t i)) (c : Compares t tags i) where
  own_tag : get_or tags i 0 ≡ tag_of a
  unfolding tag_at
  own_tag = c.tagged.each i (omega arith) ∙ rw (c.used, ea)

  pub lower_seeks : Seeks t tags a (get_or tags i 0) i
  lower_seeks =
      record {
        within = omega (arith, c.within);
        tagged = record { few = omega (arith, c.tagged.few); room = c.tagged.room; each = λ k l. c.tagged.each k (omega arith) };
        own = own_tag;
      }

pub lower_low : (t tags : List ℕ) (i : ℕ) → Compares t tags i → i < 256
lower_low t tags i c = omega (arith, c.tagged.few)

module _ (t a : List ℕ) (i : ℕ) (r : Option ℕ) (ea : a ≡ address_of (slot_at t i)) (er : r ≡ lowest (has_address a) t 0 i) where
  lower_is : in_lower t i ≡ is_at r
  unfolding in_lower
  lower_is = sym (rw (er, ea))

  pub lower_at : (j : ℕ) → r ≡ Some j → true ≡ in_lower t i
  lower_at j e = rw (lower_is, e)

  pub lower_none : r ≡ None → false ≡ in_lower t i
  lower_none e = rw (lower_is, e)

pub ruleset looking_lower = (lower_seeks, lower_low, lower_at, lower_none, rules)

pub tagged_begin : (t tags : List ℕ) → length tags ≡ 256 → TaggedTo t tags 0
tagged_begin t tags e = record { few = omega arith; room = e; each = λ k l. absurd (omega arith) }

pub tagged_next : (t tags : List ℕ) (i tag : ℕ) → TaggedTo t tags i → i < 256 → tag ≡ tag_at t i → TaggedTo t (set tags i tag) (i + 1)
tagged_next t tags i tag h l e =
    record {
      few = omega arith;
      room = simp length-set h.room;
      each = λ k b.
          ⊎_elim (λ (m : k < i). get_or-set_other tags i k tag 0 (omega arith) ∙ h.each k m)
          (λ (m : i ≤ k). let q : k ≡ i = omega arith in rw q (get_or-set_same tags i tag 0 (omega (arith, h.room)) ∙ e))
          (lt_or_le k i);
    }

pub record Judged (how : Spelling) (t : List ℕ) (n i : ℕ) : Type 0 where
  pub few : n ≤ 256
  pub upto : i ≤ n
  pub so_far : judged_by how t 0 n ≡ judged_by how t i (n - i)

pub judge_begin : (how : Spelling) (t : List ℕ) (n : ℕ) (w : Bool) → w ≡ whole t → w ≡ true → n ≡ slots t → Judged how t n 0
judge_begin how t n w ew nw en =
    record { few = omega (arith, whole_few t (sym ew ∙ nw)); upto = omega arith; so_far = rw (sub-zero n) }

module _ (how : Spelling) (t : List ℕ) (n i : ℕ) (h : Judged how t n i) where
  pub judge_next : (b : Bool) → i < n → b ≡ right_by how t i → b ≡ true → Judged how t n (i + 1)
  judge_next b l e q =
      record { few = h.few; upto = omega arith; so_far = h.so_far ∙ rw (left_one n i l) (judged_on how t i (n - (i + 1)) (sym e ∙ q)) }

  pub judge_room : i < n → i < 256
  judge_room l = omega (arith, h.few)

  pub judges_next : (tags : List ℕ) (tag : ℕ) → TaggedTo t tags i → n ≡ slots t → i < n → tag ≡ tag_at t i → Judges t (set tags i tag) i
  judges_next tags tag g e l p = record { within = omega arith; tagged = tagged_next t tags i tag g (omega (arith, h.few)) p }

  module _ (w : Bool) (ew : w ≡ whole t) (nw : w ≡ true) (en : n ≡ slots t) where
    all : checked_by how t ≡ judged_by how t i (n - i)
    all = checked_slots how t (sym ew ∙ nw) ∙ rw (← en) h.so_far

    pub checks_slot : (tags : List ℕ) (b : Bool) → i < n → b ≡ right_by how t i → b ≡ false → Checks how t tags (Slot i)
    checks_slot tags b l e q =
        record {
          answer = sym (all ∙ rw (left_one n i l) (judged_here how t i (n - (i + 1)) (sym e ∙ q)));
          opens = λ z. absurd cc;
        }

    pub checks_sound : (tags : List ℕ) → TaggedTo t tags i → n ≤ i → Checks how t tags Sound
    unfolding judged_by
    checks_sound tags g l =
        let z : n - i ≡ 0 = omega arith in
        let y : i ≡ slots t = omega (arith, h.upto) in
        let s : Sound ≡ checked_by how t = sym (all ∙ rw z) in
        record { answer = s; opens = λ _. record { sound = sym s; tagged = rw y at g } }

pub checks_length : (how : Spelling) (t tags : List ℕ) (b : Bool) → b ≡ whole t → b ≡ false → Checks how t tags Length
checks_length how t tags b e n =
    record {
      answer = sym (checked_length how t (sym e ∙ n));
      opens = λ z. absurd cc;
    }

pub judge_within : (t : List ℕ) (n i : ℕ) → n ≡ slots t → i < n → i < slots t
judge_within t n i e l = omega arith

pub ruleset judging = (judge_begin, judge_within, judge_room, judge_next, tagged_begin, tagged_next, judges_next, checks_length, checks_slot, checks_sound, rules)
