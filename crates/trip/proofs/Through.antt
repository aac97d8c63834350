-- What the answer 0 of processing says.
--     Through          the blocks are readable, the message has a sender, the table that is left is sound, and each entry in it is what the message makes of it
--     done_through     so it is with every 0
-- Assumes nothing.
use Prim.Native.Nat.{ℕ}
use mathlib.Core.Path.{◌≡◌, subst}
use mathlib.Core.Bool.{Bool, true, false, not, ◌&&◌}
use mathlib.Core.List.{List, []}
use Rattle.std.specs.Prelude.{Some, None, Ok}
use borrow.Author.Tests.{not-false}
use Rattle.octets.specs.Options.{or_else}
use Rattle.octets.specs.Octets.{AllOctets}
use Rattle.header.specs.Header.{FieldText, fields_of, readable}
use Rattle.refusals.specs.Rows.{answer_of}
use Rattle.refusals.proofs.Rows.{answer_done}
use Rattle.table.specs.Table.{checked}
use Rattle.table.specs.Entries.{entry_in}
use Rattle.table.specs.declared.Checked.TheVariants.{Sound}
use Rattle.update.specs.Message.{entry_after}
use Rattle.fields.specs.Fields.{fields_in}
use Rattle.fields.proofs.Values.{fields_read}
use Rattle.outer.specs.Outer.{sender_in}
use Rattle.settings.specs.Settings.{taken}
use Rattle.settings.specs.declared.Gossip.{Gossip}
use Rattle.slots.specs.Slot.{key_limit}
use Rattle.message.specs.Message.{payload_in, message_by, message_of}
use Rattle.message.proofs.InOrder.{InOrder}
use Rattle.process.specs.Processing.{refused_processing, left_by_processing}
use Rattle.process.proofs.Outcomes.{done_sound, done_in_order, processed_keeps, processed_octets, done_entry}

pub record Through (t : List ℕ) (receipt : ℕ) (outer payload : List ℕ) (setting : Gossip) : Type 0 where
  pub outer_read : fields_of outer ≡ Some (fields_in outer)
  pub sender : List ℕ
  pub sent : sender_in (fields_in outer) ≡ Some sender
  pub inner : List FieldText
  pub inner_read : taken setting ≡ true → fields_of payload ≡ Some inner
  pub sound : checked (left_by_processing t receipt outer payload setting) ≡ Sound
  pub octets : AllOctets (left_by_processing t receipt outer payload setting)
  pub entries : (b : List ℕ) → entry_in (left_by_processing t receipt outer payload setting) b
      ≡ entry_after (message_by key_limit receipt sender (fields_in outer) inner) b (entry_in t b)

module _ (t : List ℕ) (receipt : ℕ) (outer payload : List ℕ) (setting : Gossip) (o : AllOctets t) (u : AllOctets outer) (v : AllOctets payload) where
  -- a payload that is looked at is readable
  payload_read : InOrder receipt outer payload setting → taken setting ≡ true → fields_of payload ≡ Some (payload_in setting payload)
  unfolding payload_in
  payload_read h k =
      let r : readable payload ≡ true = not-false (readable payload) (subst (λ (x : Bool). (x && not (readable payload)) ≡ false) k h.payload_read) in
      rw (payload_in, k) (fields_read payload r)

  pub done_through : answer_of (refused_processing t receipt outer payload setting) ≡ Ok tt → Through t receipt outer payload setting
  unfolding message_of
  done_through e =
      let none_holds : refused_processing t receipt outer payload setting ≡ None = answer_done (refused_processing t receipt outer payload setting) e in
      let s : checked t ≡ Sound = done_sound t receipt outer payload setting none_holds in
      let h : InOrder receipt outer payload setting = done_in_order t receipt outer payload setting none_holds in
      record {
        outer_read = fields_read outer h.outer_read;
        sender = or_else [] (sender_in (fields_in outer));
        sent = h.sent;
        inner = payload_in setting payload;
        inner_read = payload_read h;
        sound = processed_keeps t receipt outer payload setting o u v s;
        octets = processed_octets t receipt outer payload setting o u v s;
        entries = done_entry t receipt outer payload setting o u v e;
      }
