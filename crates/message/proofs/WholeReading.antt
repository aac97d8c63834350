-- A message, read: the ways through the code.
--     read_late, read_closed      refusals 3 and 4
--     open_on                     what is known behind the walk
--     read_unsent .. read_sent    refusal 5, and what is known of the sender
--     sent_again .. read_bad      refusals 6 and 7
--     read_alone, read_carrying   what the message brings
--     the rulesets                opening, for `read`; sending and asking, for `read_on`; judged_on and reading, for `read_sent`
-- Assumes nothing.
use Prim.Native.Nat.{ℕ, ◌<◌, ◌≤◌}
use mathlib.Core.Path.{◌≡◌, sym, ◌∙◌}
use mathlib.Core.Bool.{true}
use mathlib.Core.List.{List, []}
use Rattle.std.specs.Prelude.{None, Option, Some}
use native.Mathlib.Omega.{arith}
use borrow.Author.Rules.{rules}
use lib.ListN.{length, take, length-take}
use lib.Seq.{take-take, take-length}
use Rattle.octets.specs.Options.{or_else}
use Rattle.refusals.specs.Rows.{first_of}
use Rattle.refusals.specs.declared.Refusal.TheVariants as refusal
use Rattle.settings.specs.declared.Gossip.{Gossip}
use Rattle.header.specs.Header.{FieldText, readable}
use Rattle.fields.specs.Fields.{fields_in, values_of}
use Rattle.fields.specs.Spans.{SurveyedAs}
use Rattle.fields.specs.declared.Survey.{Survey}
use Rattle.fields.proofs.Walking.{survey_readable, surveyed_as}
use Rattle.heads.specs.Head.{time_limit}
use Rattle.update.specs.Message.{Gossiped, Message}
use Rattle.keyfield.specs.Field.{chosen}
use Rattle.outer.specs.Outer.{sender_in, is_reported, recipients_in}
use Rattle.outer.specs.Answers.{sender_of, left_by_sender}
use Rattle.outer.proofs.Senders.{answer_none, left_is, left_within}
use Rattle.keys.specs.Keys.{accepted, gossip_in}
use Rattle.message.specs.Message.{message_rows, message_of}
use Rattle.message.specs.Lent.{Lent, Opened, Sent}
use Rattle.message.specs.Answers.{Passes, JudgedAs, BringsAs, Brings, ReadAs}
use Rattle.message.specs.declared.Brought.{Brought}
use Rattle.message.specs.declared.Judged.{Judged}
use Rattle.message.specs.declared.Judged.TheVariants.{Report, Unreadable, Passed, Searched}
use Rattle.message.specs.declared.Reading.{Reading}
use Rattle.message.specs.declared.Reading.TheVariants.{Alone, Carrying, Refused}
use Rattle.message.proofs.Rows.{first_time, first_outer, first_sender, first_report, first_payload, first_none}
use Rattle.message.proofs.Bringing.{block_short}

-- `read`
module _ (most receipt : ℕ) (outer payload : List ℕ) (g : Gossip) (sender key : List ℕ) where
  pub read_late : time_limit < receipt → ReadAs most receipt outer payload g sender key (Refused refusal.ReceiptTime)
  unfolding ReadAs
  read_late l = first_time receipt outer payload g l

  pub read_closed :
      receipt ≤ time_limit → (k : Option Survey) → k ≡ None → SurveyedAs outer k → ReadAs most receipt outer payload g sender key (Refused refusal.OuterBlock)
  unfolding ReadAs SurveyedAs
  read_closed l k q h = first_outer receipt outer payload g l (rw q at h)

pub open_on :
    (most receipt : ℕ) (outer text sender key : List ℕ) → receipt ≤ time_limit → Lent most outer text sender key
    → (k : Option Survey) (v : Survey) → k ≡ Some v → SurveyedAs outer k → Opened most receipt outer v text sender key
open_on most receipt outer text sender key l h k v q s =
    let seen = surveyed_as outer k s v q in
    record {
      in_time = l;
      walked = record { surveyed = seen; room = omega (arith, h.room, block_short outer (survey_readable outer v seen)) };
      sender_room = h.sender_room;
      key_room = h.key_room;
      key_most = h.key_most;
    }

pub ruleset opening = (read_late, read_closed, open_on, rules)

-- `read_on`: it knows o of the memory as it was
module _ (most receipt : ℕ) (outer : List ℕ) (v : Survey) (text₀ d key₀ : List ℕ) (o : Opened most receipt outer v text₀ d key₀)
    (k : Option ℕ) (e : k ≡ sender_of (sender_in (fields_in outer))) where
  pub read_unsent : k ≡ None → (payload : List ℕ) (g : Gossip) (sender key : List ℕ) → ReadAs most receipt outer payload g sender key (Refused refusal.Sender)
  unfolding ReadAs
  read_unsent q payload g sender key =
      first_sender receipt outer payload g o.in_time (survey_readable outer v o.walked.surveyed)
      (answer_none (sender_in (fields_in outer)) (sym q ∙ e))

  module _ (sender : List ℕ) (w : sender ≡ left_by_sender (sender_in (fields_in outer)) d) (n : ℕ) (q : k ≡ Some n) where
    pub sent_within : n ≤ length sender
    sent_within = left_within (sender_in (fields_in outer)) k e sender d w n q

    pub sent_on : (text : List ℕ) → length text ≡ length text₀ → Sent most receipt outer v text (take n sender) key₀
    sent_on text l =
        record {
          in_time = o.in_time;
          walked = record { surveyed = o.walked.surveyed; room = omega (arith, o.walked.room, l) };
          sent = (left_is (sender_in (fields_in outer)) k e sender d w n q);
          key_room = o.key_room;
          key_most = o.key_most;
        }

-- what was brought by the front of the memory is brought by the memory
front_brings : (n : ℕ) (sender key : List ℕ) (b : Brought) (gossip : List Gossiped) (m : Message) → n ≤ length sender
    → Brings (take n sender) key b gossip m → Brings sender key b gossip m
front_brings n sender key b gossip m l h =
    let x : b.sender ≤ n = omega (arith, h.within, length-take n sender) in
    let same : take b.sender (take n sender) ≡ take b.sender sender = rw (take-take b.sender n sender x) in
    record { within = omega (arith, x, l); ready = rw same at h.ready; is = rw same at h.is }

module _ (most receipt : ℕ) (outer payload : List ℕ) (g : Gossip) (sender key : List ℕ) (n : ℕ) (l : n ≤ length sender) where
  front_read : (r : Reading) → ReadAs most receipt outer payload g (take n sender) key r → ReadAs most receipt outer payload g sender key r
  unfolding ReadAs
  front_read (Alone b) h = record { in_order = h.in_order; brings = front_brings n sender key b _ _ l h.brings }
  front_read (Carrying b v) h =
      record {
        takes = h.takes;
        in_order = h.in_order;
        surveyed = h.surveyed;
        readably = h.readably;
        brings = front_brings n sender key b _ _ l h.brings;
      }
  front_read (Refused r) h = h

  pub read_sent : (r : Reading) → ReadAs most receipt outer payload g (take n sender) key r → ReadAs most receipt outer payload g sender key r
  read_sent r h = front_read r h

pub ruleset sending = (sent_within, sent_on, rules)

pub ruleset asking = (read_unsent, sent_within, read_sent, rules)

-- `read_sent`: it knows h of the text and the key as they were
module _ (most receipt : ℕ) (outer : List ℕ) (v : Survey) (text₀ sender key₀ : List ℕ) (h : Sent most receipt outer v text₀ sender key₀) where
  pub sent_again : (text key : List ℕ) → length text ≡ length text₀ → length key ≡ length key₀ → Sent most receipt outer v text sender key
  sent_again text key l m =
      record {
        in_time = h.in_time;
        walked = record { surveyed = h.walked.surveyed; room = omega (arith, h.walked.room, l) };
        sent = h.sent;
        key_room = omega (arith, h.key_room, m);
        key_most = h.key_most;
      }

  module _ (payload : List ℕ) (g : Gossip) (j : Judged) (judged : JudgedAs (is_reported (fields_in outer)) payload g j) where
    outer_read : readable outer ≡ true
    outer_read = survey_readable outer v h.walked.surveyed

    pub read_report : j ≡ Report → (key : List ℕ) → ReadAs most receipt outer payload g sender key (Refused refusal.Report)
    unfolding ReadAs JudgedAs
    read_report y key = first_report receipt outer payload g h.in_time outer_read sender h.sent (rw y at judged)

    pub read_bad : j ≡ Unreadable → (key : List ℕ) → ReadAs most receipt outer payload g sender key (Refused refusal.PayloadBlock)
    unfolding ReadAs JudgedAs
    read_bad y key =
        let p = rw y at judged in
        first_payload receipt outer payload g h.in_time outer_read sender h.sent p.no_report p.holds

    module _ (key : List ℕ) (b : Brought) (brought : BringsAs most receipt outer sender key b) where
      whole : take b.sender sender ≡ sender
      whole = rw (brought.long, take-length sender)

      -- with the fields that the payload comes to
      brings : (fs : List FieldText) → Passes (is_reported (fields_in outer)) payload g fs
          → Brings sender key b (gossip_in most (recipients_in (fields_in outer)) fs) (message_of most receipt outer payload g)
      unfolding message_of or_else
      brings fs p =
          record {
            within = omega (arith, brought.long);
            ready = rw whole brought.ready;
            is = rw (whole, h.sent, p.fields) (brought.is fs);
          }

      in_order : (fs : List FieldText) → Passes (is_reported (fields_in outer)) payload g fs → first_of (message_rows receipt outer payload g) ≡ None
      in_order fs p = first_none receipt outer payload g h.in_time outer_read sender h.sent p.no_report p.no_row

      pub read_alone : j ≡ Passed → ReadAs most receipt outer payload g sender key (Alone b)
      unfolding ReadAs JudgedAs gossip_in accepted chosen values_of
      read_alone y = let p = rw y at judged in record { in_order = in_order [] p; brings = brings [] p }

      pub read_carrying : j ≡ Searched → ReadAs most receipt outer payload g sender key (Carrying b v)
      unfolding ReadAs JudgedAs
      read_carrying y =
          let p = rw y at judged in
          record {
            takes = p.takes;
            in_order = in_order (fields_in payload) p.passes;
            surveyed = h.walked.surveyed;
            readably = p.readably;
            brings = brings (fields_in payload) p.passes;
          }

pub ruleset judged_on = (sent_again, rules)

pub ruleset reading = (read_report, read_bad, read_alone, read_carrying, rules)
