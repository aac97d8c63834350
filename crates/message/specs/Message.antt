-- SCOPE, R3 to R7, and pages U and G: the refusals for which no table is asked, and what a message brings where none of them is given.
--     payload_in      the fields in which gossip is looked for
--     message_rows    rows 3 to 7
--     direct_by       the direct half that its field brings
--     message_by      what it brings, by its sender and the fields of its blocks
--     message_of      what it brings, by its blocks
use Rattle.std.specs.Prelude.{ℕ, true, false, not, ◌&&◌, List, [], ◌∷◌, leb}
use Rattle.std.specs.Prelude.{Option, Some, None}
use Rattle.octets.specs.Options.{is_some, or_else}
use Rattle.refusals.specs.Rows.{Row, ◌when◌, ◌unless◌}
use Rattle.refusals.specs.declared.Refusal.TheVariants.{ReceiptTime, OuterBlock, Sender, Report, PayloadBlock}
use Rattle.settings.specs.Settings.{taken}
use Rattle.settings.specs.declared.Gossip.{Gossip}
use Rattle.header.specs.Header.{FieldText, readable}
use Rattle.fields.specs.Fields.{fields_in}
use Rattle.heads.specs.Head.{time_limit}
use Rattle.heads.specs.Entry.{Direct}
use Rattle.keyfield.specs.Field.{Field}
use Rattle.update.specs.Message.{Message}
use Rattle.outer.specs.Outer.{sender_in, is_reported, date_in, recipients_in}
use Rattle.keys.specs.Keys.{counted_in, gossip_in}

-- G2: none of the payload's fields is looked at where gossip is not taken
unfoldable pub payload_in : Gossip → List ℕ → List FieldText
payload_in g payload = elim (taken g) [ true ↦ fields_in payload | false ↦ [] ]

-- R3, R4, R5, R6, R7: the receipt time is above the largest time, the outer block is unreadable, there is not just one sender, a Content-Type is a
-- report, gossip is taken and the payload is unreadable. An unreadable block has no fields; a payload of no octets is readable and has none (U1,
-- G3). No row asks what the message would change (R35), and what Autocrypt would ignore is refused (R36)
unfoldable pub message_rows : ℕ → List ℕ → List ℕ → Gossip → List Row
message_rows receipt outer payload g =
    (ReceiptTime unless leb receipt time_limit)
    ∷ (OuterBlock unless readable outer)
    ∷ (Sender unless is_some (sender_in (fields_in outer)))
    ∷ (Report when is_reported (fields_in outer))
    ∷ (PayloadBlock when (taken g && not (readable payload)))
    ∷ []

-- U8: the direct half of a counted field, with the effective date as its timestamp
unfoldable pub direct_by : ℕ → Option Field → Option Direct
direct_by date None = None
direct_by date (Some f) = Some (record { timestamp = date; key = f.key; «mutual» = f.is_mutual })

-- D14, F13, G4, G5: what a message brings, by its sender and by the fields of the outer block and of the payload, with keys of at most so many
-- octets: the effective date for all of it, the counted field, and the accepted gossip about the recipients
unfoldable pub message_by : ℕ → ℕ → List ℕ → List FieldText → List FieldText → Message
message_by most receipt sender outer payload =
    record {
      sender = sender;
      date = date_in outer receipt;
      direct = direct_by (date_in outer receipt) (counted_in most outer sender);
      gossip = gossip_in most (recipients_in outer) payload;
    }

-- U1: what a message brings, by its blocks and the gossip setting
unfoldable pub message_of : ℕ → ℕ → List ℕ → List ℕ → Gossip → Message
message_of most receipt outer payload g = message_by most receipt (or_else [] (sender_in (fields_in outer))) (fields_in outer) (payload_in g payload)
