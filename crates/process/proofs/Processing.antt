-- Processing: the ways through the code.
--     carries_on .. carried_left        `deliver_carrying`: what is delivered by the roll of the recipients
--     alone_within, carrying_within     `process_with`: the sender's address stands in lent memory
--     refused_answered, refused_done    `process_with`: the message is refused
--     alone_sends .. alone_done         `process_with`: it comes alone
--     carrying_readied .. carrying_done    `process_with`: it carries a payload
--     roomy_short, roomy_long           `process_open`: a text that is as long as the blocks that are read need
--     opened .. table_left              `process`: rows 1 and 2
-- Assumes nothing.
use Prim.Native.Nat.{ℕ, ◌≤◌}
use mathlib.Core.Path.{◌≡◌, refl, sym, ap, ◌∙◌}
use mathlib.Core.Bool.{Bool, true, not, ◌||◌}
use mathlib.Core.List.{List, []}
use Rattle.std.specs.Prelude.{Option, Some, None, Result, Ok, Err}
use native.Mathlib.Omega.{arith}
use native.Mathlib.Nat.{sub-zero}
use borrow.Author.Rules.{rules}
use borrow.Author.Tests.{leb-true}
use lib.Dec.{leb}
use lib.ListN.{length, take}
use Rattle.octets.proofs.Tests.{and_left, and_right}
use Rattle.refusals.specs.Rows.{first_of, answer_of}
use Rattle.refusals.specs.declared.Refusal.{Refusal}
use Rattle.refusals.proofs.Rows.{refused_is, front_refuses}
use Rattle.settings.specs.Settings.{taken}
use Rattle.settings.specs.declared.Gossip.{Gossip}
use Rattle.fields.specs.declared.Survey.{Survey}
use Rattle.fields.proofs.Walking.{survey_readable}
use Rattle.table.specs.Tagged.{Open}
use Rattle.inspect.specs.Inspecting.{table_rows, Opens}
use Rattle.update.specs.Message.{Gossiped, applied}
use Rattle.roll.specs.Index.{Indexed}
use Rattle.roll.specs.declared.Rolled.{Rolled}
use Rattle.recipients.specs.Answers.{GatheredAs}
use Rattle.recipients.proofs.RecipientRoll.{enough_room, gathered, gathered_index}
use Rattle.keys.specs.Answers.{gossip_of}
use Rattle.message.specs.Message.{message_rows, message_of}
use Rattle.message.specs.Answers.{mail_of, heard_in, Brings, AloneAs, CarryingAs, ReadAs}
use Rattle.message.specs.declared.Brought.{Brought}
use Rattle.message.specs.declared.Reading.{Reading}
use Rattle.message.specs.declared.Reading.TheVariants.{Alone, Carrying, Refused as Unread}
use Rattle.message.proofs.Bringing.{block_short}
use Rattle.delivery.specs.Delivery.{room_rows, delivered}
use Rattle.delivery.specs.Sending.{Sends, Carries}
use Rattle.process.specs.Processing.{processing_rows, refused_processing, left_by_processing}
use Rattle.process.specs.Stages.{is_short, Roomy, Readied}
use Rattle.process.proofs.Outcomes.{message_refused, room_first, room_left, refused_left}

-- `deliver_carrying`
module _ (t tags : List ℕ) (b : Brought) (sender key outer : List ℕ) (survey : Survey) (payload text : List ℕ)
    (h : Readied t tags b sender key outer survey payload text) where
  pub carries_on : (later : List ℕ) → length later ≡ length text → (recipients listed places : List ℕ) → Indexed recipients listed places
      → Carries t tags sender key b payload 2048 recipients listed places later
  carries_on later l recipients listed places x =
      record {
        sends = h.sends;
        reads = record { readably = h.reads.readably; room = omega (arith, h.reads.room, l) };
        index = x;
        most = omega arith;
      }

module _ (outer roll listed places : List ℕ) (r : Rolled) (h : GatheredAs outer roll listed places r)
    (t : List ℕ) (b : Brought) (sender key payload : List ℕ) where
  heard_is : gossip_of 2048 (take r.end roll) payload ≡ heard_in 2048 outer payload
  heard_is =
      let recipients = rw sub-zero at (gathered outer roll listed places r h) in
      rw recipients

  pub carried_answered : (a : Result (Unit {0}) Refusal)
      → a ≡ answer_of (first_of (room_rows t (mail_of sender key b (gossip_of 2048 (take r.end roll) payload))))
      → a ≡ answer_of (first_of (room_rows t (mail_of sender key b (heard_in 2048 outer payload))))
  carried_answered a e = e ∙ ap (λ (gs : List Gossiped). answer_of (first_of (room_rows t (mail_of sender key b gs)))) heard_is

  pub carried_left : (u : List ℕ) → u ≡ delivered t (mail_of sender key b (gossip_of 2048 (take r.end roll) payload))
      → u ≡ delivered t (mail_of sender key b (heard_in 2048 outer payload))
  carried_left u e = e ∙ ap (λ (gs : List Gossiped). delivered t (mail_of sender key b gs)) heard_is

pub ruleset rolling = (enough_room, gathered_index, carries_on, rules)

pub ruleset carried = (carried_answered, carried_left)

-- `process_with`: r is what the message was read as
module _ (receipt : ℕ) (outer payload : List ℕ) (g : Gossip) (sender key : List ℕ) (r : Reading)
    (h : ReadAs 2048 receipt outer payload g sender key r) (b : Brought) where
  alone : r ≡ Alone b → AloneAs 2048 receipt outer payload g sender key b
  unfolding ReadAs
  alone q = rw q at h

  pub alone_within : r ≡ Alone b → b.sender ≤ length sender
  alone_within q = (alone q).brings.within

  carrying : (v : Survey) → r ≡ Carrying b v → CarryingAs 2048 receipt outer payload g sender key b v
  unfolding ReadAs
  carrying v q = rw q at h

  pub carrying_within : (v : Survey) → r ≡ Carrying b v → b.sender ≤ length sender
  carrying_within v q = (carrying v q).brings.within

-- and the table is open
module _ (t tags : List ℕ) (receipt : ℕ) (outer payload : List ℕ) (g : Gossip) (room : ℕ) (y : Roomy t tags outer payload g room)
    (sender key : List ℕ) (r : Reading) (h : ReadAs 2048 receipt outer payload g sender key r) where
  module _ (x : Refusal) (q : r ≡ Unread x) where
    first : refused_processing t receipt outer payload g ≡ Some x
    unfolding ReadAs
    first = message_refused t receipt outer payload g y.opened.sound x (rw q at h)

    pub refused_answered : Err x ≡ answer_of (refused_processing t receipt outer payload g)
    refused_answered = sym (refused_is Err (Ok tt) (refused_processing t receipt outer payload g) x first)

    pub refused_done : t ≡ left_by_processing t receipt outer payload g
    refused_done = sym (refused_left t receipt outer payload g x first)

  -- what it brings is the message of both blocks
  module _ (b : Brought) (gs : List Gossiped) (m : Brings sender key b gs (message_of 2048 receipt outer payload g))
      (e : first_of (message_rows receipt outer payload g) ≡ None) where
    answered : (a : Result (Unit {0}) Refusal) → a ≡ answer_of (first_of (room_rows t (mail_of (take b.sender sender) key b gs)))
        → a ≡ answer_of (refused_processing t receipt outer payload g)
    answered a w =
        (rw m.is at w) ∙ ap (λ (o : Option Refusal). answer_of o) (sym (room_first t receipt outer payload g y.opened.sound e))

    left : (u : List ℕ) → u ≡ delivered t (mail_of (take b.sender sender) key b gs) → u ≡ left_by_processing t receipt outer payload g
    left u w = (rw m.is at w) ∙ room_left t receipt outer payload g y.opened.sound e

    sends : Sends t tags (take b.sender sender) key b
    sends = record { opened = y.opened; ready = m.ready }

  module _ (b : Brought) (q : r ≡ Alone b) where
    brought : AloneAs 2048 receipt outer payload g sender key b
    brought = alone receipt outer payload g sender key r h b q

    pub alone_sends : Sends t tags (take b.sender sender) key b
    alone_sends = sends b [] brought.brings brought.in_order

    pub alone_answered : (a : Result (Unit {0}) Refusal) → a ≡ answer_of (first_of (room_rows t (mail_of (take b.sender sender) key b [])))
        → a ≡ answer_of (refused_processing t receipt outer payload g)
    alone_answered = answered b [] brought.brings brought.in_order

    pub alone_done : (u : List ℕ) → u ≡ delivered t (mail_of (take b.sender sender) key b []) → u ≡ left_by_processing t receipt outer payload g
    alone_done = left b [] brought.brings brought.in_order

  module _ (b : Brought) (v : Survey) (q : r ≡ Carrying b v) where
    carried_so : CarryingAs 2048 receipt outer payload g sender key b v
    carried_so = carrying receipt outer payload g sender key r h b v q

    pub carrying_readied : (text : List ℕ) → length text ≡ room
        → Readied t tags b (take b.sender sender) key outer v payload text
    carrying_readied text l =
        record {
          sends = sends b (heard_in 2048 outer payload) carried_so.brings carried_so.in_order;
          reads =
              record { readably = carried_so.readably; room = omega (arith, y.payload_fits carried_so.takes, block_short payload carried_so.readably, l) };
          surveyed = carried_so.surveyed;
          outer_fits = omega (arith, y.outer_fits, block_short outer (survey_readable outer v carried_so.surveyed), l);
        }

    pub carrying_answered : (a : Result (Unit {0}) Refusal) → a ≡ answer_of (first_of (room_rows t (mail_of (take b.sender sender) key b (heard_in 2048 outer payload))))
        → a ≡ answer_of (refused_processing t receipt outer payload g)
    carrying_answered = answered b (heard_in 2048 outer payload) carried_so.brings carried_so.in_order

    pub carrying_done : (u : List ℕ) → u ≡ delivered t (mail_of (take b.sender sender) key b (heard_in 2048 outer payload))
        → u ≡ left_by_processing t receipt outer payload g
    carrying_done = left b (heard_in 2048 outer payload) carried_so.brings carried_so.in_order

pub ruleset telling = (alone_within, carrying_within, rules)

pub ruleset reading_alone = (alone_sends, alone_answered, alone_done, rules)

pub ruleset reading_carrying = (carrying_readied, carrying_answered, carrying_done, rules)

pub ruleset refusing = (refused_answered, refused_done, rules)

-- `process_open`
module _ (t tags outer payload : List ℕ) (g : Gossip) (s : Open t tags) where
  module _ (b : Bool) (yes : b ≡ true) (is : b ≡ is_short outer payload g) where
    short : is_short outer payload g ≡ true
    short = sym is ∙ yes

    outer_short : leb (length outer) 8192 ≡ true
    unfolding is_short
    outer_short = and_left (leb (length outer) 8192) (not (taken g) || leb (length payload) 8192) short

    payload_short : taken g ≡ true → leb (length payload) 8192 ≡ true
    unfolding is_short
    payload_short k = rw k at (and_right (leb (length outer) 8192) (not (taken g) || leb (length payload) 8192) short)

    pub roomy_short : Roomy t tags outer payload g 8192
    roomy_short =
        record {
          opened = s;
          most = omega arith;
          outer_fits = omega (arith, leb-true (length outer) 8192 outer_short);
          payload_fits = λ k. omega (arith, leb-true (length payload) 8192 (payload_short k));
        }

  pub roomy_long : Roomy t tags outer payload g 65536
  roomy_long = record { opened = s; most = omega arith; outer_fits = omega arith; payload_fits = λ k. omega arith }

-- `process`
module _ (t tags : List ℕ) (k : Result (Unit {0}) Refusal) (h : Opens t tags k) where
  pub opened : k ≡ Ok tt → Open t tags
  opened = h.opens

  module _ (receipt : ℕ) (outer payload : List ℕ) (g : Gossip) (r : Refusal) (q : k ≡ Err r) where
    pub table_answered : Err r ≡ answer_of (refused_processing t receipt outer payload g)
    unfolding refused_processing processing_rows
    table_answered = front_refuses Err (Ok tt) (table_rows t) _ k h.answer (Err r) r q refl

    pub table_left : t ≡ left_by_processing t receipt outer payload g
    unfolding left_by_processing refused_processing processing_rows
    table_left = front_refuses (λ (x : Refusal). t) (applied t (message_of 2048 receipt outer payload g)) (table_rows t) _ k h.answer t r q refl

pub ruleset processing = (table_answered, table_left, opened, rules)
