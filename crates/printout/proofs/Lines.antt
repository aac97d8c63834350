-- The lines of a sound table, slot by slot.
--     line_parts                   a line is the address and what the slot's numbers say
--     slot_parts, slot_free        the text of a used slot and of another
--     free_put .. slot_put         the steps of `put_slot`
--     Lined t d out n o i          d is the buffer as it came and out as it is now, with the lines of the slots before slot i in its first o octets
--     lines_begin .. lines_put     the loop over the slots
--     the rulesets                 slotting, for `put_slot`; lining, for `put_lines`
-- Assumes nothing.
use Prim.Native.Nat.{ℕ, ◌+◌, ◌-◌, ◌<◌, ◌≤◌}
use mathlib.Core.Path.{◌≡◌, refl, sym, ◌∙◌}
use mathlib.Core.Bool.{Bool, true, false}
use Rattle.std.specs.Prelude.{Option, Some, None, option_map}
use mathlib.Core.List.{List, [], ◌++◌, append_assoc}
use native.Mathlib.Nat.{sub-zero}
use native.Mathlib.Omega.{arith}
use borrow.Author.Rules.{rules}
use lib.ListN.{length, length-append}
use Rattle.octets.specs.Options.{or_else, is_some}
use Rattle.octets.proofs.Lists.{left_one}
use Rattle.octets.proofs.Writing.{Wrote, begin_at, kept, counted, puts, done_at}
use Rattle.heads.specs.declared.Head.{Head}
use Rattle.heads.specs.Head.{head_of}
use Rattle.slots.specs.Slot.{marked, address_of}
use Rattle.heads.specs.Entry.{Entry, Direct, Gossip, head_for, present, no_direct, no_gossip}
use Rattle.slots.specs.Entry.{entry_of}
use Rattle.slots.proofs.Sounds.{sound_parts}
use Rattle.slots.proofs.Entries.{head_back}
use Rattle.table.specs.Table.{slots, slot_at, checked}
use Rattle.table.specs.declared.Checked.TheVariants.{Sound}
use Rattle.table.proofs.Slots.{slot_long}
use Rattle.table.proofs.Keeping.{table_sound, used_sound}
use Rattle.printout.specs.Printout.{line, line_of, slot_text, lines_from}
use Rattle.columns.specs.Columns.{ended}
use Rattle.columns.specs.Putting.{Room, Put}
use Rattle.printout.specs.Parts.{direct_part, gossip_part, numbers_part}
use Rattle.columns.proofs.Placing.{room_one, room_two, two_put}

-- an absent half has no time and one that is there its own
half_time : {A : Type 0} (f : A → ℕ) (d : A) (h : Option A) → present (is_some h) (f (or_else d h)) ≡ option_map f h
unfolding is_some or_else
half_time f d None = refl
half_time f d (Some x) = refl

-- last seen, where it is there
seen_time : (h : Option ℕ) → present (is_some h) (or_else 0 h) ≡ h
unfolding is_some or_else
seen_time None = refl
seen_time (Some x) = refl

pub line_parts : (e : Entry) → line_of e ≡ ended e.address 32 ++ numbers_part (head_for e)
unfolding line_of line numbers_part direct_part gossip_part ended head_for
line_parts e =
    rw (
      seen_time e.last_seen,
      half_time (λ (d : Direct). d.timestamp) no_direct e.direct,
      half_time (λ (g : Gossip). g.timestamp) no_gossip e.gossip,
    )
    (simp append_assoc)

module _ (t : List ℕ) (i : ℕ) where
  pub slot_free : marked (slot_at t i) ≡ false → slot_text (slot_at t i) ≡ []
  unfolding slot_text
  slot_free e = rw (slot_text, e)

  slot_line : marked (slot_at t i) ≡ true → slot_text (slot_at t i) ≡ line_of (entry_of (slot_at t i))
  unfolding slot_text
  slot_line e = rw (slot_text, e)

  pub slot_parts : checked t ≡ Sound → i < slots t → marked (slot_at t i) ≡ true
      → slot_text (slot_at t i) ≡ ended (address_of (slot_at t i)) 32 ++ numbers_part (head_of (slot_at t i))
  unfolding entry_of
  slot_parts s l m =
      let p = sound_parts (slot_at t i) (used_sound t (table_sound t s) i l m).0 in
      slot_line m ∙ line_parts (entry_of (slot_at t i)) ∙ rw (head_back (slot_at t i) (slot_long t i l) p)

-- `put_slot`: b is whether the slot is used, a its address and n its numbers
module _ (t d : List ℕ) (i at : ℕ) (b : Bool) (e : b ≡ marked (slot_at t i))
    (c : (checked t ≡ Sound) × (i < slots t) × Room d at (slot_text (slot_at t i))) where
  pub free_put : b ≡ false → Put d d at (slot_text (slot_at t i)) at
  free_put f =
      let z : slot_text (slot_at t i) ≡ [] = slot_free t i (sym e ∙ f) in
      let h : at + length {A = ℕ} [] ≤ length d = rw z at c.2.fits in
      rw z (record { text = done_at [] d d at at h (begin_at [] d at h); place = omega arith })

  module _ (f : b ≡ true) (a : List ℕ) (ea : a ≡ address_of (slot_at t i)) where
    parts : (n : Head) → n ≡ head_of (slot_at t i) → slot_text (slot_at t i) ≡ ended a 32 ++ numbers_part n
    parts n en = slot_parts t i c.0 c.1 (sym e ∙ f) ∙ rw (ea, en)

    pub room_for_address : Room d at (ended a 32)
    room_for_address = room_one (slot_text (slot_at t i)) (ended a 32) (numbers_part (head_of (slot_at t i))) d at c.2 (parts _ refl)

    module _ (n : Head) (en : n ≡ head_of (slot_at t i)) (d₁ : List ℕ) (o₁ : ℕ) (p₁ : Put d d₁ at (ended a 32) o₁) where
      pub numbers_room : Room d₁ o₁ (numbers_part n)
      numbers_room = room_two (slot_text (slot_at t i)) (ended a 32) (numbers_part n) d at c.2 (parts n en) d₁ o₁ p₁

      pub slot_put : (d₂ : List ℕ) (o₂ : ℕ) → Put d₁ d₂ o₁ (numbers_part n) o₂ → Put d d₂ at (slot_text (slot_at t i)) o₂
      slot_put = two_put (slot_text (slot_at t i)) (ended a 32) (numbers_part n) d at c.2 (parts n en) d₁ o₁ p₁

pub ruleset slotting = (free_put, room_for_address, numbers_room, slot_put, rules)

-- `put_lines`
pub record Lined (t d out : List ℕ) (n o i : ℕ) : Type 0 where
  pub whole : n ≡ slots t
  pub upto : i ≤ n
  pub going : Wrote (lines_from t 0 n) d out o (lines_from t i (n - i))

pub lines_begin : (t d : List ℕ) (n : ℕ) → (checked t ≡ Sound) × Room d 0 (lines_from t 0 (slots t)) → n ≡ slots t
    → Lined t d d n 0 0
lines_begin t d n c e =
    record { whole = e; upto = omega arith; going = rw (sub-zero n) (begin_at (lines_from t 0 n) d 0 (rw e c.1.fits)) }

module _ (t d out : List ℕ) (n o i : ℕ) (h : Lined t d out n o i) where
  pub lines_kept : length out ≡ length d
  lines_kept = kept (lines_from t 0 n) d out o (lines_from t i (n - i)) h.going

  module _ (l : i < n) where
    goes_on : Wrote (lines_from t 0 n) d out o (slot_text (slot_at t i) ++ lines_from t (i + 1) (n - (i + 1)))
    unfolding lines_from
    goes_on = rw (left_one n i l) at h.going

    pub lines_within : i < slots t
    lines_within = omega (arith, h.whole)

    pub lines_room : Room out o (slot_text (slot_at t i))
    lines_room =
        let all : length (slot_text (slot_at t i) ++ lines_from t (i + 1) (n - (i + 1)))
        ≡ length (slot_text (slot_at t i)) + length (lines_from t (i + 1) (n - (i + 1))) =
        length-append (slot_text (slot_at t i)) (lines_from t (i + 1) (n - (i + 1))) in
        record { fits = omega (arith, all, lines_kept, goes_on.room, counted _ d out o _ goes_on) }

    pub lines_next : (out₁ : List ℕ) (o₁ : ℕ) → Put out out₁ o (slot_text (slot_at t i)) o₁ → Lined t d out₁ n o₁ (i + 1)
    lines_next out₁ o₁ p =
        record {
          whole = h.whole;
          upto = omega arith;
          going = rw (p.place, p.text) (puts _ d out o (slot_text (slot_at t i)) (lines_from t (i + 1) (n - (i + 1))) goes_on);
        }

  module _ (l : n ≤ i) where
    at_end : Wrote (lines_from t 0 (slots t)) d out o []
    unfolding lines_from
    at_end =
        let z : n - i ≡ 0 = omega arith in
        rw (← h.whole) (rw z at h.going)

    pub lines_put : Room d 0 (lines_from t 0 (slots t)) → Put d out 0 (lines_from t 0 (slots t)) o
    lines_put r =
        record {
          text = done_at (lines_from t 0 (slots t)) d out 0 o r.fits at_end;
          place = omega (arith, counted _ d out o [] at_end);
        }

pub ruleset lining = (lines_begin, lines_kept, lines_within, lines_room, lines_next, lines_put, rules)
