-- Rows 3 to 7 do not hold: what that says of the blocks, and of the message that is then brought.
--     InOrder, in_order                  of the blocks
--     payload_octets, message_good       the message is good
-- Assumes nothing.
use Prim.Native.Nat.{ℕ, ◌≤◌}
use mathlib.Core.Path.{◌≡◌, refl, subst}
use mathlib.Core.Bool.{Bool, true, false, not, ◌&&◌}
use mathlib.Core.List.{List, []}
use Rattle.std.specs.Prelude.{Option, Some, None}
use borrow.Author.Tests.{leb-true, not-false}
use lib.Dec.{leb}
use Rattle.octets.specs.Octets.{AllOctets}
use Rattle.octets.specs.Options.{Each, is_some, or_else}
use Rattle.octets.proofs.Tests.{by_test}
use Rattle.refusals.specs.Rows.{first_of}
use Rattle.refusals.specs.declared.Refusal.TheVariants.{ReceiptTime, OuterBlock, Sender, Report, PayloadBlock}
use Rattle.refusals.proofs.Rows.{none_here, none_rest}
use Rattle.settings.specs.Settings.{taken}
use Rattle.settings.specs.declared.Gossip.{Gossip}
use Rattle.header.specs.Header.{readable}
use Rattle.header.proofs.Values.{ValuesOctets, block_octets}
use Rattle.fields.specs.Fields.{fields_in}
use Rattle.fields.proofs.Values.{fields_read}
use Rattle.heads.specs.Head.{time_limit}
use Rattle.slots.specs.Slot.{key_limit}
use Rattle.update.specs.Message.{GoodMessage}
use Rattle.outer.specs.Outer.{sender_in, is_reported}
use Rattle.message.specs.Message.{payload_in, message_rows, message_of}
use Rattle.message.proofs.Good.{brought_good}

-- there is a sender
sender_there : (o : Option (List ℕ)) → is_some o ≡ true → o ≡ Some (or_else [] o)
unfolding is_some or_else
sender_there None e = cc
sender_there (Some a) e = refl

pub record InOrder (receipt : ℕ) (outer payload : List ℕ) (g : Gossip) : Type 0 where
  pub in_time : receipt ≤ time_limit
  pub outer_read : readable outer ≡ true
  pub sent : sender_in (fields_in outer) ≡ Some (or_else [] (sender_in (fields_in outer)))
  pub no_report : is_reported (fields_in outer) ≡ false
  pub payload_read : (taken g && not (readable payload)) ≡ false

module _ (receipt : ℕ) (outer payload : List ℕ) (g : Gossip) where
  pub in_order : first_of (message_rows receipt outer payload g) ≡ None → InOrder receipt outer payload g
  unfolding message_rows
  in_order e =
      let behind_three = none_rest ReceiptTime _ _ e in
      let behind-four = none_rest OuterBlock _ _ behind_three in
      let behind-five = none_rest Sender _ _ behind-four in
      let behind-six = none_rest Report _ _ behind-five in
      record {
        in_time = leb-true receipt time_limit (not-false (leb receipt time_limit) (none_here ReceiptTime _ _ e));
        outer_read = not-false (readable outer) (none_here OuterBlock _ _ behind_three);
        sent = sender_there (sender_in (fields_in outer)) (not-false (is_some (sender_in (fields_in outer))) (none_here Sender _ _ behind-four));
        no_report = none_here Report _ _ behind-five;
        payload_read = none_here PayloadBlock _ _ behind-six;
      }

  module _ (h : InOrder receipt outer payload g) where
    -- gossip is taken of a readable payload, or of none
    pub payload_octets : AllOctets payload → ValuesOctets (payload_in g payload)
    unfolding payload_in Each
    payload_octets v = by_test (taken g) (λ k. rw (payload_in, k) (taking k)) (λ k. rw (payload_in, k) tt)
      where
        taking : taken g ≡ true → ValuesOctets (fields_in payload)
        taking k =
            let r : readable payload ≡ true = not-false (readable payload) (subst (λ (x : Bool). (x && not (readable payload)) ≡ false) k h.payload_read) in
            block_octets payload v (fields_in payload) (fields_read payload r)

    pub message_good : (most : ℕ) → most ≤ key_limit → AllOctets outer → AllOctets payload → GoodMessage (message_of most receipt outer payload g)
    unfolding message_of
    message_good most l u v =
        brought_good most l receipt h.in_time outer u (fields_in outer) (fields_read outer h.outer_read) (or_else [] (sender_in (fields_in outer))) h.sent
        (payload_in g payload) (payload_octets v)
