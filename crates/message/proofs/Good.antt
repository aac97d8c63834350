-- A message that is read from blocks of octets is good: what it brings can be written into a table.
--     direct_good      the direct half that it brings
--     brought_good     the whole message
-- Assumes nothing.
use Prim.Native.Nat.{ℕ, ◌≤◌}
use mathlib.Core.Path.{◌≡◌, refl, ap, ◌∙◌}
use mathlib.Core.List.{List}
use Rattle.std.specs.Prelude.{Option, Some, None}
use Rattle.octets.specs.Octets.{AllOctets}
use Rattle.octets.specs.Options.{IfSome}
use Rattle.header.specs.Header.{FieldText, fields_of}
use Rattle.header.proofs.Values.{ValuesOctets}
use Rattle.keyfield.specs.Field.{Field}
use Rattle.heads.specs.Head.{time_limit}
use Rattle.slots.specs.Slot.{key_limit}
use Rattle.update.specs.Message.{GoodBrought, GoodMessage}
use Rattle.fields.specs.Fields.{fields_in}
use Rattle.fields.proofs.Values.{fields_are}
use Rattle.outer.specs.Outer.{sender_in, date_in, recipients_in}
use Rattle.outer.proofs.Senders.{sender_canonical, sender_octets}
use Rattle.outer.proofs.Dates.{date_in_range}
use Rattle.keys.specs.Keys.{counted_in}
use Rattle.keys.proofs.GoodKeys.{counted_key, gossip_good}
use Rattle.message.specs.Message.{direct_by, message_by}

pub direct_good : (most : ℕ) → most ≤ key_limit → (date : ℕ) (fs : List FieldText) (sender : List ℕ)
    → IfSome (GoodBrought date) (direct_by date (counted_in most fs sender))
unfolding direct_by
direct_good most l date fs sender = go (counted_in most fs sender) refl
  where
    go : (o : Option Field) → counted_in most fs sender ≡ o → IfSome (GoodBrought date) (direct_by date (counted_in most fs sender))
    go None e = rw e tt
    go (Some f) e = rw e (record { dated = refl; key = counted_key most l fs sender f e })

module _ (most : ℕ) (l : most ≤ key_limit) (receipt : ℕ) (h : receipt ≤ time_limit) (outer : List ℕ) (o : AllOctets outer) (fs : List FieldText) (e : fields_of outer ≡ Some fs)
    (sender : List ℕ) (s : sender_in fs ≡ Some sender) where
  sent : sender_in (fields_in outer) ≡ Some sender
  sent = ap sender_in (fields_are outer fs e) ∙ s

  pub brought_good : (payload : List FieldText) → ValuesOctets payload → GoodMessage (message_by most receipt sender fs payload)
  unfolding message_by
  brought_good payload p =
      record {
        canonical = sender_canonical fs sender s;
        octets = sender_octets outer sender o sent;
        in_range = date_in_range fs receipt h;
        direct = direct_good most l (date_in fs receipt) fs sender;
        gossip = gossip_good most l (recipients_in fs) payload p;
      }
