-- A message, delivered: first it is asked whether there is room (R8), and only then written (U2).
--     carries_seeks .. carries_on    what the parts of the work ask for
--     put_all                        the table with the sender's part and the gossip
--     full_answered .. put_left      whether there is room, and the table afterwards
--     alone_full .. alone_left       whether there is room for a message with no gossip to look for, and the table afterwards
--     the rulesets                   carrying and delivering, for `deliver`; putting, for `put_message`; alone, for `deliver_alone`
-- Assumes nothing.
use Rattle.std.specs.Prelude.{Ok, Err}
use Prim.Native.Nat.{ℕ}
use mathlib.Core.Path.{◌≡◌, refl, ◌∙◌}
use mathlib.Core.Bool.{Bool, true, false}
use mathlib.Core.List.{List, [], ◌∷◌}
use native.Mathlib.Omega.{arith}
use borrow.Author.Rules.{rules}
use lib.ListN.{length}
use Rattle.refusals.specs.Rows.{first_of, answer_of}
use Rattle.refusals.specs.declared.Refusal.TheVariants.{NoFreeSlot}
use Rattle.refusals.proofs.Rows.{denied_refuses, denied_passes, no_row}
use Rattle.table.specs.Tagged.{Open}
use Rattle.update.specs.Update.{updated, put}
use Rattle.update.specs.Message.{Message, Gossiped, gossip_addresses, addresses_of, has_room, heard_all, applied}
use Rattle.keys.specs.Answers.{gossip_of}
use Rattle.message.specs.Answers.{direct_from, mail_of}
use Rattle.message.specs.declared.Brought.{Brought}
use Rattle.room.specs.Room.{gossiped_in, room_beside}
use Rattle.room.specs.Counting.{Seeks}
use Rattle.room.proofs.Beside.{beside_message}
use Rattle.delivery.specs.Delivery.{room_rows, delivered}
use Rattle.delivery.specs.Sending.{Listens, Carries}

module _ (t tags sender key : List ℕ) (b : Brought) (payload : List ℕ) (limit : ℕ) (recipients listed places text : List ℕ)
    (h : Carries t tags sender key b payload limit recipients listed places text) where
  pub carries_seeks : Seeks t tags limit sender payload recipients listed places text
  carries_seeks =
      record { opened = h.sends.opened; canonical = h.sends.ready.canonical; reads = h.reads; index = h.index; most = h.most }

  pub carries_listens : (u vs : List ℕ) → Open u vs → Listens u vs b.date payload limit recipients listed places text
  carries_listens u vs o = record { opened = o; in_range = h.sends.ready.in_range; reads = h.reads; index = h.index; most = h.most }

  -- another text of the same length
  pub carries_on : (later : List ℕ) → length later ≡ length text → Carries t tags sender key b payload limit recipients listed places later
  carries_on later l =
      record {
        sends = h.sends;
        reads = record { readably = h.reads.readably; room = omega (arith, h.reads.room, l) };
        index = h.index;
        most = h.most;
      }

pub ruleset carrying = (carries_seeks, carries_on, rules)

module _ (t sender key : List ℕ) (b : Brought) where
  abbrev sent : List ℕ
  sent = put t sender (updated b.date (direct_from b.date key b.own))

  -- with the gossip gs
  module _ (gs : List Gossiped) where
    abbrev mail : Message
    mail = mail_of sender key b gs

    put_heard : heard_all b.date gs sent ≡ applied t mail
    unfolding applied mail_of
    put_heard = refl

    module _ (c : Bool) (e : c ≡ room_beside t [] (sender ∷ gossip_addresses gs)) where
      told : c ≡ has_room t mail
      unfolding addresses_of mail_of
      told = e ∙ beside_message t mail

      refused : c ≡ false → Err NoFreeSlot ≡ answer_of (first_of (room_rows t mail))
      unfolding room_rows
      refused q = denied_refuses Err (Ok tt) NoFreeSlot [] (Err NoFreeSlot) (has_room t mail) c told q refl

      done : c ≡ true → (Ok tt) ≡ answer_of (first_of (room_rows t mail))
      unfolding room_rows
      done q = denied_passes Err (Ok tt) NoFreeSlot [] (Ok tt) (has_room t mail) c told q (no_row Err (Ok tt) (Ok tt) refl)

      untouched : c ≡ false → t ≡ delivered t mail
      unfolding delivered
      untouched q = rw (delivered, ← told, q)

      whole : c ≡ true → (u : List ℕ) → u ≡ applied t mail → u ≡ delivered t mail
      unfolding delivered
      whole q u v = rw (delivered, ← told, q) v

  module _ (limit : ℕ) (recipients payload : List ℕ) where
    pub put_all : (u v : List ℕ) → u ≡ put t sender (updated b.date (direct_from b.date key b.own))
        → v ≡ heard_all b.date (gossip_of limit recipients payload) u → v ≡ applied t (mail_of sender key b (gossip_of limit recipients payload))
    put_all u v x y = (rw x at y) ∙ put_heard (gossip_of limit recipients payload)

    module _ (c : Bool) (e : c ≡ room_beside t [] (sender ∷ gossiped_in limit recipients payload)) where
      pub full_answered : c ≡ false → Err NoFreeSlot ≡ answer_of (first_of (room_rows t (mail_of sender key b (gossip_of limit recipients payload))))
      unfolding gossiped_in
      full_answered = refused (gossip_of limit recipients payload) c e

      pub full_left : c ≡ false → t ≡ delivered t (mail_of sender key b (gossip_of limit recipients payload))
      unfolding gossiped_in
      full_left = untouched (gossip_of limit recipients payload) c e

      pub put_answered : c ≡ true → (Ok tt) ≡ answer_of (first_of (room_rows t (mail_of sender key b (gossip_of limit recipients payload))))
      unfolding gossiped_in
      put_answered = done (gossip_of limit recipients payload) c e

      pub put_left : c ≡ true → (u : List ℕ) → u ≡ applied t (mail_of sender key b (gossip_of limit recipients payload))
          → u ≡ delivered t (mail_of sender key b (gossip_of limit recipients payload))
      unfolding gossiped_in
      put_left = whole (gossip_of limit recipients payload) c e

  -- no gossip
  module _ (c : Bool) (e : c ≡ room_beside t [] (sender ∷ [])) where
    pub alone_full : c ≡ false → Err NoFreeSlot ≡ answer_of (first_of (room_rows t (mail_of sender key b [])))
    unfolding gossip_addresses
    alone_full = refused [] c e

    pub alone_untouched : c ≡ false → t ≡ delivered t (mail_of sender key b [])
    unfolding gossip_addresses
    alone_untouched = untouched [] c e

    pub alone_answered : c ≡ true → (Ok tt) ≡ answer_of (first_of (room_rows t (mail_of sender key b [])))
    unfolding gossip_addresses
    alone_answered = done [] c e

    pub alone_left : c ≡ true → (u : List ℕ) → u ≡ put t sender (updated b.date (direct_from b.date key b.own))
        → u ≡ delivered t (mail_of sender key b [])
    unfolding gossip_addresses heard_all
    alone_left q u v = whole [] c e q u (v ∙ put_heard [])

pub ruleset putting = (carries_listens, put_all, rules)

pub ruleset delivering = (full_answered, full_left, put_answered, put_left, rules)

pub ruleset alone = (alone_full, alone_untouched, alone_answered, alone_left, rules)
