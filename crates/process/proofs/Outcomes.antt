-- What comes with each answer of processing.
--     sound_first, unsound_first         with a sound table rows 3 to 8 decide, with another one 1 and 2
--     message_refused, message_fits, message_full     a sound table: which of 3 to 8 it is, or none
--     room_first, room_left              it is decided by row 8 alone, where 3 to 7 do not hold
--     refused_untouched, done_left       a refusal leaves the table as it was (R32); success leaves the one to which the message was applied
--     done_sound, done_in_order, done_room     success: the table was sound, no row held, and there was room
--     index_lowest                       the index with 2 is that of the lowest slot that is neither free nor sound
--     processed_keeps, processed_octets  C4: a sound table stays sound, whatever the message
--     done_entry                         success: what the entry of any address is afterwards
-- Assumes nothing.
use Prim.Native.Nat.{ℕ}
use mathlib.Core.Path.{◌≡◌, refl, sym, ap, subst, ◌∙◌}
use mathlib.Core.Bool.{true, false}
use mathlib.Core.List.{List, [], ◌++◌}
use Rattle.std.specs.Prelude.{Option, Some, None, Ok, Err}
use native.Mathlib.Omega.{arith}
use borrow.Author.Tests.{not-false}
use Rattle.octets.specs.Octets.{AllOctets}
use Rattle.octets.proofs.Tests.{by_test}
use Rattle.refusals.specs.Rows.{first_of, answer_of, some_holds}
use Rattle.refusals.specs.declared.Refusal.{Refusal}
use Rattle.refusals.specs.declared.Refusal.TheVariants.{BrokenSlot, NoFreeSlot}
use Rattle.refusals.proofs.Rows.{by_refusal, first_front, first_rest, none_here, none_front, none_behind, front_only, refused_is, done_is, answer_refused, answer_done}
use Rattle.slots.specs.declared.Spelling.TheVariants.{Canonical}
use Rattle.table.specs.Table.{checked}
use Rattle.table.specs.Slotwise.{Broken}
use Rattle.table.specs.Entries.{entry_in}
use Rattle.table.specs.declared.Checked.TheVariants.{Sound}
use Rattle.inspect.specs.Inspecting.{table_rows}
use Rattle.inspect.proofs.Tables.{sound_rows, rows_sound, lowest_broken}
use Rattle.update.specs.Message.{Message, GoodMessage, has_room, applied, entry_after}
use Rattle.update.proofs.Applying.{applied_sound, applied_octets, applied_entry}
use Rattle.settings.specs.declared.Gossip.{Gossip}
use Rattle.slots.specs.Slot.{key_limit}
use Rattle.message.specs.Message.{message_rows, message_of}
use Rattle.message.proofs.InOrder.{InOrder, in_order, message_good}
use Rattle.delivery.specs.Delivery.{room_rows, delivered}
use Rattle.process.specs.Processing.{processing_rows, refused_processing, left_by_processing}

module _ (t : List ℕ) (receipt : ℕ) (outer payload : List ℕ) (g : Gossip) where
  abbrev refusal : Option Refusal
  refusal = refused_processing t receipt outer payload g

  abbrev message : Message
  message = message_of key_limit receipt outer payload g

  pub sound_first : checked t ≡ Sound → refusal ≡ first_of (message_rows receipt outer payload g ++ room_rows t message)
  unfolding refused_processing processing_rows
  sound_first s = first_rest (table_rows t) _ (sound_rows Canonical t s)

  pub unsound_first : (r : Refusal) → first_of (table_rows t) ≡ Some r → refusal ≡ Some r
  unfolding refused_processing processing_rows
  unsound_first r e = first_front (table_rows t) _ r e

  pub refused_left : (r : Refusal) → refusal ≡ Some r → left_by_processing t receipt outer payload g ≡ t
  unfolding left_by_processing
  refused_left r e = refused_is (λ (x : Refusal). t) (applied t message) refusal r e

  pub done_left : refusal ≡ None → left_by_processing t receipt outer payload g ≡ applied t message
  unfolding left_by_processing
  done_left e = done_is (λ (x : Refusal). t) (applied t message) refusal e

  -- a sound table, by the rows behind
  module _ (s : checked t ≡ Sound) where
    pub message_refused : (r : Refusal) → first_of (message_rows receipt outer payload g) ≡ Some r → refusal ≡ Some r
    message_refused r e = sound_first s ∙ first_front (message_rows receipt outer payload g) (room_rows t message) r e

    module _ (e : first_of (message_rows receipt outer payload g) ≡ None) where
      pub room_first : refusal ≡ first_of (room_rows t message)
      room_first = sound_first s ∙ first_rest (message_rows receipt outer payload g) (room_rows t message) e

      pub message_fits : has_room t message ≡ true → refusal ≡ None
      unfolding room_rows first_of
      message_fits h = room_first ∙ rw h

      pub message_full : has_room t message ≡ false → refusal ≡ Some NoFreeSlot
      unfolding room_rows first_of
      message_full h = room_first ∙ rw h

      pub room_left : delivered t message ≡ left_by_processing t receipt outer payload g
      unfolding delivered
      room_left =
          by_test (has_room t message)
          (λ h. rw (delivered, h) (sym (done_left (message_fits h))))
          (λ h. rw (delivered, h) (sym (refused_left NoFreeSlot (message_full h))))

  -- no row holds
  module _ (e : refusal ≡ None) where
    pub done_sound : checked t ≡ Sound
    unfolding refused_processing processing_rows
    done_sound = rows_sound Canonical t (none_front (table_rows t) _ e)

    behind_table : first_of (message_rows receipt outer payload g ++ room_rows t message) ≡ None
    behind_table = sym (sound_first done_sound) ∙ e

    pub done_in_order : InOrder receipt outer payload g
    done_in_order = in_order receipt outer payload g (none_front (message_rows receipt outer payload g) (room_rows t message) behind_table)

    pub done_room : has_room t message ≡ true
    unfolding room_rows
    done_room = not-false (has_room t message) (none_here NoFreeSlot _ [] (none_behind (message_rows receipt outer payload g) (room_rows t message) behind_table))

  pub refused_untouched : (r : Refusal) → answer_of refusal ≡ Err r → left_by_processing t receipt outer payload g ≡ t
  refused_untouched r a = refused_left r (answer_refused refusal r a)

  -- 2 is given by the rows of the table alone
  pub index_lowest : (i : ℕ) → answer_of refusal ≡ Err (BrokenSlot i) → Broken t i
  unfolding refused_processing processing_rows message_rows room_rows some_holds
  index_lowest i a = lowest_broken Canonical t i (front_only (table_rows t) (message_rows receipt outer payload g ++ room_rows t message) (BrokenSlot i) refl (answer_refused refusal (BrokenSlot i) a))

  -- blocks of octets
  module _ (o : AllOctets t) (u : AllOctets outer) (v : AllOctets payload) where
    -- what holds of the table as it came, and of one to which a good message is applied
    after : (P : List ℕ → Type 0) → P t → (GoodMessage message → P (applied t message)) → P (left_by_processing t receipt outer payload g)
    after P p more =
        by_refusal refusal
        (λ r e. subst P (sym (refused_left r e)) p)
        (λ e. subst P (sym (done_left e)) (more (message_good receipt outer payload g (done_in_order e) key_limit (omega arith) u v)))

    module _ (s : checked t ≡ Sound) where
      pub processed_keeps : checked (left_by_processing t receipt outer payload g) ≡ Sound
      processed_keeps = after (λ x. checked x ≡ Sound) s (λ good. applied_sound t message good s o)

      pub processed_octets : AllOctets (left_by_processing t receipt outer payload g)
      processed_octets = after AllOctets o (λ good. applied_octets t message good s o)

    pub done_entry : answer_of refusal ≡ Ok tt → (b : List ℕ)
        → entry_in (left_by_processing t receipt outer payload g) b ≡ entry_after message b (entry_in t b)
    done_entry a b =
        let e : refusal ≡ None = answer_done refusal a in
        ap (λ (x : List ℕ). entry_in x b) (done_left e)
        ∙ applied_entry t message (message_good receipt outer payload g (done_in_order e) key_limit (omega arith) u v) (done_sound e) o (done_room e) b
