-- Which of rows 3 to 7 is the first that holds, by what the code finds out.
--     first_time .. first_payload    one of them
--     first_none                     none of them
-- Assumes nothing.
use Prim.Native.Nat.{ℕ, ◌<◌, ◌≤◌}
use mathlib.Core.Path.{◌≡◌}
use mathlib.Core.Bool.{true, false, not, ◌&&◌}
use mathlib.Core.List.{List}
use Rattle.std.specs.Prelude.{Some, None}
use borrow.Author.Tests.{le-leb, lt-leb}
use Rattle.octets.specs.Options.{is_some}
use Rattle.refusals.specs.Rows.{first_of}
use Rattle.refusals.specs.declared.Refusal.TheVariants.{ReceiptTime, OuterBlock, Sender, Report, PayloadBlock}
use Rattle.settings.specs.Settings.{taken}
use Rattle.settings.specs.declared.Gossip.{Gossip}
use Rattle.header.specs.Header.{readable}
use Rattle.fields.specs.Fields.{fields_in}
use Rattle.heads.specs.Head.{time_limit}
use Rattle.outer.specs.Outer.{sender_in, is_reported}
use Rattle.message.specs.Message.{message_rows}

module _ (receipt : ℕ) (outer payload : List ℕ) (g : Gossip) where
  pub first_time : time_limit < receipt → first_of (message_rows receipt outer payload g) ≡ Some ReceiptTime
  unfolding message_rows first_of
  first_time l = rw (lt-leb receipt time_limit l)

  module _ (l : receipt ≤ time_limit) where
    pub first_outer : readable outer ≡ false → first_of (message_rows receipt outer payload g) ≡ Some OuterBlock
    unfolding message_rows first_of
    first_outer o = rw (le-leb receipt time_limit l, o)

    module _ (o : readable outer ≡ true) where
      pub first_sender : sender_in (fields_in outer) ≡ None → first_of (message_rows receipt outer payload g) ≡ Some Sender
      unfolding message_rows first_of is_some
      first_sender s = rw (le-leb receipt time_limit l, o, s)

      module _ (sender : List ℕ) (s : sender_in (fields_in outer) ≡ Some sender) where
        pub first_report : is_reported (fields_in outer) ≡ true → first_of (message_rows receipt outer payload g) ≡ Some Report
        unfolding message_rows first_of is_some
        first_report n = rw (le-leb receipt time_limit l, o, s, n)

        module _ (n : is_reported (fields_in outer) ≡ false) where
          pub first_payload : (taken g && not (readable payload)) ≡ true → first_of (message_rows receipt outer payload g) ≡ Some PayloadBlock
          unfolding message_rows first_of is_some
          first_payload p = rw (le-leb receipt time_limit l, o, s, n, p)

          pub first_none : (taken g && not (readable payload)) ≡ false → first_of (message_rows receipt outer payload g) ≡ None
          unfolding message_rows first_of is_some
          first_none p = rw (le-leb receipt time_limit l, o, s, n, p)
