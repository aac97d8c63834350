-- Rows 1 and 2 (R1, R2): what they come to, by the answer of the table's check, and back.
--     slot_fits                          the index of a broken slot is a small number
--     sound_rows, length_rows, slot_rows    the rows, by the answer of the check
--     rows_sound                         neither row holds only where the check finds nothing
--     lowest_broken, broken_refused      2 is given exactly with the index of the lowest slot that is neither free nor sound
--     opens_sound .. opens_slot          the answer that `open_by` gives, with the tags
--     the ruleset                        opening, for `open_by`
-- Assumes nothing.
use Prim.Native.Nat.{ℕ, ◌%◌}
use mathlib.Core.Path.{◌≡◌, sym, ap, ◌∙◌}
use mathlib.Core.Bool.{true, false, ◌&&◌}
use mathlib.Core.List.{List}
use Rattle.std.specs.Prelude.{Some, None, Ok, Err}
use native.Mathlib.Omega.{arith}
use borrow.Author.Rules.{rules}
use borrow.Author.Tests.{leb-true}
use lib.Dec.{leb, eqb}
use lib.ListN.{length}
use mir.Syntax.{w32}
use mir.Val.{Fits}
use Rattle.octets.proofs.Tests.{and_right, by_test}
use Rattle.refusals.specs.Rows.{first_of, answered_by, answer_of}
use Rattle.refusals.specs.declared.Refusal.TheVariants.{TableLength, BrokenSlot}
use Rattle.slots.specs.declared.Spelling.{Spelling}
use Rattle.table.specs.Table.{slots, whole, checked_by}
use Rattle.table.specs.Slotwise.{BrokenBy}
use Rattle.table.specs.declared.Checked.{Checked}
use Rattle.table.specs.declared.Checked.TheVariants.{Sound, Length, Slot}
use Rattle.lookup.specs.Looking.{Checks}
use Rattle.table.proofs.Judging.{checked_length}
use Rattle.table.proofs.Broken.{by_check, checked_broken, broken_checked, checked_out}
use Rattle.inspect.specs.Inspecting.{is_sound, broken_slot, table_rows_by, OpensBy}

module _ (how : Spelling) (t : List ℕ) where
  -- the check answers the length exactly where there are no whole slots
  length_out : whole t ≡ false → first_of (table_rows_by how t) ≡ Some TableLength
  unfolding table_rows_by first_of
  length_out w = rw w

  -- where there are, by the answer
  module _ (w : whole t ≡ true) where
    sound_in : checked_by how t ≡ Sound → first_of (table_rows_by how t) ≡ None
    unfolding table_rows_by first_of is_sound
    sound_in e = rw (w, e)

    slot_in : (i : ℕ) → checked_by how t ≡ Slot i → first_of (table_rows_by how t) ≡ Some (BrokenSlot i)
    unfolding table_rows_by first_of is_sound broken_slot
    slot_in i e = rw (w, e)

  -- no other table has an answer but the length
  whole_unless : (c : Checked) → checked_by how t ≡ c → (c ≡ Length → ⊥) → whole t ≡ true
  whole_unless c e n = by_test (whole t) (λ w. w) (λ w. absurd (n (sym e ∙ checked_length how t w)))

  pub length_rows : checked_by how t ≡ Length → first_of (table_rows_by how t) ≡ Some TableLength
  length_rows e = length_out (checked_out how t e)

  pub sound_rows : checked_by how t ≡ Sound → first_of (table_rows_by how t) ≡ None
  sound_rows e = sound_in (whole_unless Sound e (λ q. let z : ◌≡◌ {A = ℕ} 0 1 = cc in omega arith)) e

  pub slot_rows : (i : ℕ) → checked_by how t ≡ Slot i → first_of (table_rows_by how t) ≡ Some (BrokenSlot i)
  slot_rows i e = slot_in (whole_unless (Slot i) e (λ q. let z : ◌≡◌ {A = ℕ} 0 1 = cc in omega arith)) i e

  pub rows_sound : first_of (table_rows_by how t) ≡ None → checked_by how t ≡ Sound
  rows_sound e =
      by_check (checked_by how t) (λ q. q) (λ q. let z : None ≡ Some TableLength = sym e ∙ length_rows q in cc)
      (λ i q. let z : None ≡ Some (BrokenSlot i) = sym e ∙ slot_rows i q in cc)

  pub lowest_broken : (i : ℕ) → first_of (table_rows_by how t) ≡ Some (BrokenSlot i) → BrokenBy how t i
  lowest_broken i e =
      by_check (checked_by how t)
      (λ q. let z : None ≡ Some (BrokenSlot i) = sym (sound_rows q) ∙ e in let n : ◌≡◌ {A = ℕ} 0 1 = cc in absurd (omega arith))
      (λ q. let z : Some TableLength ≡ Some (BrokenSlot i) = sym (length_rows q) ∙ e in let n : ◌≡◌ {A = ℕ} 0 1 = cc in absurd (omega arith))
      (λ j q.
      let z : Some (BrokenSlot j) ≡ Some (BrokenSlot i) = sym (slot_rows j q) ∙ e in
      let p : j ≡ i = cc in
      checked_broken how t i (q ∙ ap Slot p))

  pub broken_refused : (i : ℕ) → BrokenBy how t i → first_of (table_rows_by how t) ≡ Some (BrokenSlot i)
  broken_refused i b = slot_rows i (broken_checked how t i b)

  -- as the code has it
  module _ (r : Checked) (e : r ≡ checked_by how t) where
    pub slot_fits : (i : ℕ) → r ≡ Slot i → Fits w32 i
    unfolding whole
    slot_fits i q =
        let b : BrokenBy how t i = checked_broken how t i (sym e ∙ q) in
        omega (arith, b.within, leb-true (slots t) 256 (and_right (eqb (length t % 4392) 0 && leb 1 (slots t)) (leb (slots t) 256) b.whole_slots))

    as_sound : r ≡ Sound → (Ok tt) ≡ answer_of (first_of (table_rows_by how t))
    unfolding answered_by
    as_sound q = rw (sound_rows (sym e ∙ q))

    as_length : r ≡ Length → Err TableLength ≡ answer_of (first_of (table_rows_by how t))
    unfolding answered_by
    as_length q = rw (length_rows (sym e ∙ q))

    as_slot : (i : ℕ) → r ≡ Slot i → Err (BrokenSlot i) ≡ answer_of (first_of (table_rows_by how t))
    unfolding answered_by
    as_slot i q = rw (slot_rows i (sym e ∙ q))

    -- the code hands out the tags that came with the answer
    module _ (tags : List ℕ) (h : Checks how t tags r) where
      pub opens_sound : r ≡ Sound → OpensBy how t tags (Ok tt)
      opens_sound q = record { answer = as_sound q; opens = λ _. h.opens q }

      pub opens_length : r ≡ Length → OpensBy how t tags (Err TableLength)
      opens_length q = record { answer = as_length q; opens = λ z. let n : ◌≡◌ {A = ℕ} 0 1 = cc in absurd (omega arith) }

      pub opens_slot : (i : ℕ) → r ≡ Slot i → OpensBy how t tags (Err (BrokenSlot i))
      opens_slot i q = record { answer = as_slot i q; opens = λ z. let n : ◌≡◌ {A = ℕ} 0 1 = cc in absurd (omega arith) }

pub ruleset opening = (slot_fits, opens_sound, opens_length, opens_slot, rules)
