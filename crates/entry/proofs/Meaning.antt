-- What the eleven numbers say: the entry of a used slot, and nothing of any other.
--     tells              the numbers of a used slot of a sound table tell its entry
--     bits_there         the second number is octet 4 of the slot
--     free_zero, past_zero    a free slot and a slot past the end give zeros
-- Assumes nothing.
use Prim.Native.Nat.{ℕ, ◌+◌, ◌*◌, ◌<◌, ◌≤◌}
use mathlib.Core.Path.{◌≡◌, refl, sym, ap, ◌∙◌}
use mathlib.Core.Bool.{true, false, false≢true, and-false}
use mathlib.Core.List.{List}
use native.Mathlib.Omega.{arith}
use borrow.Author.Tests.{eqb-true, eqb-false}
use lib.Dec.{eqb, ltb}
use lib.ListN.{length, get_or, take, drop, replicate}
use Rattle.octets.specs.Options.{or_else}
use Rattle.octets.proofs.Tests.{by_test}
use Rattle.heads.specs.declared.Head.{Head}
use Rattle.heads.specs.Head.{bits, direct_length, gossip_length, head_of, bits_of}
use Rattle.slots.specs.Slot.{slot_length, address_of, direct_key_of, gossip_key_of, marked, free}
use Rattle.heads.specs.Entry.{head_for, no_direct, no_gossip}
use Rattle.slots.specs.Entry.{entry_of}
use Rattle.slots.specs.Facts.{Sound}
use Rattle.slots.proofs.Sounds.{sound_parts, marked_not_free}
use Rattle.slots.proofs.Entries.{head_back, address_fits, direct_fits, gossip_fits, direct_key, gossip_key_told, all_bits}
use Rattle.table.specs.Table.{slots, slot_at, checked}
use Rattle.table.specs.declared.Checked.TheVariants.{Sound as Checked}
use Rattle.table.proofs.Slots.{slot_long, area_octets}
use Rattle.table.proofs.Keeping.{table_sound, used_sound}
use Rattle.entry.specs.Shown.{shown_count, start_of, placed, stated, parts, told, used_at, shown_at, Lies, Tells}
use Rattle.entry.proofs.Telling.{start_empty, start_there, past_unused, within_used}

module _ (t : List ℕ) (i : ℕ) where
  zero_shown : false ≡ used_at t i → shown_at t i ≡ replicate shown_count 0
  unfolding shown_at
  zero_shown e = rw (shown_at, sym e)

  pub past_zero : slots t ≤ i → shown_at t i ≡ replicate shown_count 0
  past_zero l = zero_shown (past_unused t i (slots t) refl l)

  pub free_zero : free (slot_at t i) ≡ true → shown_at t i ≡ replicate shown_count 0
  unfolding used_at
  free_zero f =
      by_test (marked (slot_at t i))
      (λ m. absurd (false≢true (sym (marked_not_free (slot_at t i) m) ∙ f)))
      (λ m. zero_shown (sym (rw m (and-false (ltb i (slots t))))))

-- start and length, as they are told, of octets that stand in the table
lies : (t w x : List ℕ) (k at offset n : ℕ) → get_or w k 0 ≡ start_of at offset n → get_or w (k + 1) 0 ≡ n → n ≡ length x → take n (drop (at + offset) t) ≡ x
    → Lies t w k x
lies t w x k at offset n a b l e =
    record {
      long = b ∙ l;
      there =
          rw (a, b)
          (by_test (eqb n 0)
          (λ q. let z : n ≡ 0 = eqb-true n 0 q in rw z (rw z at e))
          (λ q. rw (← start_there at offset n (eqb-false n 0 q)) e));
      nowhere = λ q. a ∙ sym (start_empty at offset n (l ∙ ap length q));
    }

module _ (t : List ℕ) (c : checked t ≡ Checked) (i : ℕ) (l : i < slots t) (m : marked (slot_at t i) ≡ true) where
  abbrev s : List ℕ
  s = slot_at t i

  long : length s ≡ slot_length
  long = slot_long t i l

  sound_slot : Sound s
  sound_slot = sound_parts s (used_sound t (table_sound t c) i l m).0

  -- the numbers of the slot are those of its entry
  same : head_of s ≡ head_for (entry_of s)
  same = sym (head_back s long sound_slot)

  shown_there : told 1 (i * 4392) (head_of s) ≡ shown_at t i
  unfolding shown_at
  shown_there = let u : used_at t i ≡ true = sym (sym m ∙ within_used t i (slots t) refl l (marked s) refl) in rw (shown_at, u)

  told_tells : Tells t (entry_of s) (told 1 (i * 4392) (head_of s))
  unfolding told stated parts placed head_of head_for entry_of address_of direct_key_of gossip_key_of
  told_tells =
      record {
        count = refl;
        used = refl;
        bits = ap bits_of same;
        last_seen_told = ap (λ (n : Head). n.last_seen) same;
        timestamp = ap (λ (n : Head). n.timestamp) same;
        gossip_timestamp_told = ap (λ (n : Head). n.gossip_timestamp) same;
        address =
            lies t _ (entry_of s).address 5 (i * 4392) 40 (head_of s).address_length refl refl (ap (λ (n : Head). n.address_length) same)
            (area_octets t i 40 256 (head_of s).address_length (omega arith) (address_fits s long sound_slot));
        direct_key =
            lies t _ (or_else no_direct (entry_of s).direct).key 7 (i * 4392) 296 (direct_length s) refl refl (ap (λ (n : Head). n.direct_length) same)
            (area_octets t i 296 2048 (direct_length s) (omega arith) (direct_fits s long sound_slot) ∙ sym (direct_key s long sound_slot));
        gossip_key_told =
            lies t _ (or_else no_gossip (entry_of s).gossip).key 9 (i * 4392) 2344 (gossip_length s) refl refl (ap (λ (n : Head). n.gossip_length) same)
            (area_octets t i 2344 2048 (gossip_length s) (omega arith) (gossip_fits s long sound_slot) ∙ sym (gossip_key_told s long sound_slot));
      }

  pub tells : Tells t (entry_of s) (shown_at t i)
  tells = rw (← shown_there) told_tells

  pub bits_there : get_or (shown_at t i) 1 0 ≡ bits s
  unfolding told stated
  bits_there = rw (← shown_there) (all_bits s long sound_slot)
