-- The call `lint`: its refusals in order, and the ways through the code.
--     first_outer .. first_list         which row is the first that holds; behind rows 4, 5 and 7 it is that of the list
--     outer_answered, outer_left        `lint_with`: the outer block is unreadable
--     walked                            and where it is not
--     sender_answered .. payload_left   `lint_walked`: there is not just one sender; the payload is unreadable
--     sent                              and where neither is so
--     readied                           `lint_sent`: the recipients are gathered, and the faults may be listed
--     sent_answered, sent_left          what listing them comes to
--     roomy_short, roomy_long           `lint`: as much room as the blocks need
--     the rulesets                      opening, walking, sending, finishing, roomy
-- Assumes nothing.
use Prim.Native.Nat.{ℕ, ◌≤◌}
use mathlib.Core.Path.{◌≡◌, refl, sym, ◌∙◌}
use mathlib.Core.Bool.{Bool, true, false}
use mathlib.Core.List.{List}
use Rattle.std.specs.Prelude.{Some, None, Option, Result, Ok, Err}
use native.Mathlib.Nat.{sub-zero}
use native.Mathlib.Omega.{arith}
use borrow.Author.Rules.{rules}
use lib.ListN.{length, take}
use Rattle.octets.specs.Options.{is_some, or_else}
use Rattle.octets.specs.Written.{onto}
use Rattle.refusals.specs.Rows.{first_of}
use Rattle.refusals.specs.declared.Refusal.{Refusal}
use Rattle.refusals.specs.declared.Refusal.TheVariants.{OuterBlock, Sender, PayloadBlock}
use Rattle.refusals.proofs.Rows.{refused_is}
use Rattle.header.specs.Header.{limit, readable}
use Rattle.header.proofs.Fields.{clear_fits}
use Rattle.roll.specs.Index.{Indexed}
use Rattle.roll.specs.declared.Rolled.{Rolled}
use Rattle.fields.specs.Fields.{fields_in}
use Rattle.fields.specs.Spans.{SurveyAs, SurveyedAs}
use Rattle.fields.specs.declared.Survey.{Survey}
use Rattle.fields.proofs.Walking.{survey_readable}
use Rattle.outer.specs.Outer.{sender_in}
use Rattle.outer.specs.Answers.{sender_of, left_by_sender}
use Rattle.outer.proofs.Senders.{sender_canonical, answer_none, left_is, left_within}
use Rattle.recipients.specs.Answers.{GatheredAs}
use Rattle.recipients.proofs.RecipientRoll.{enough_room, gathered, gathered_index}
use Rattle.faults.specs.Faults.{numbers_of}
use Rattle.lint.specs.Linting.{mail_faults, list_rows, linting_rows, refused_linting, linted_of, left_by_linting}
use Rattle.lint.specs.Stages.{faults_with, listed_of, left_by_listing, Roomy, Walked, Sent, Readied}
use Rattle.lint.specs.declared.Mail.{Mail}

-- R31: the rows in order
module _ (outer payload : List ℕ) (room : ℕ) where
  first_outer : readable outer ≡ false → refused_linting outer payload room ≡ Some OuterBlock
  unfolding refused_linting linting_rows first_of
  first_outer o = rw o

  module _ (o : readable outer ≡ true) where
    first_sender : sender_in (fields_in outer) ≡ None → refused_linting outer payload room ≡ Some Sender
    unfolding refused_linting linting_rows first_of is_some
    first_sender s = rw (o, s)

    module _ (sender : List ℕ) (s : sender_in (fields_in outer) ≡ Some sender) where
      first_payload : readable payload ≡ false → refused_linting outer payload room ≡ Some PayloadBlock
      unfolding refused_linting linting_rows first_of is_some
      first_payload p = rw (o, s, p)

      first_list : readable payload ≡ true → refused_linting outer payload room ≡ first_of (list_rows (mail_faults outer payload) room)
      unfolding refused_linting linting_rows first_of is_some
      first_list p = rw (o, s, p)

-- a refusal answers itself, and leaves the list
module _ (outer payload list : List ℕ) (r : Refusal) (e : refused_linting outer payload (length list) ≡ Some r) where
  answered : Err r ≡ linted_of outer payload (length list)
  unfolding linted_of
  answered = sym (refused_is Err (Ok (length (mail_faults outer payload))) (refused_linting outer payload (length list)) r e)

  left : list ≡ left_by_linting outer payload list
  unfolding left_by_linting
  left = sym (refused_is (λ (q : Refusal). list) (onto (numbers_of (mail_faults outer payload)) list) (refused_linting outer payload (length list)) r e)

-- a readable block has no more octets than a block may have
short : (s : List ℕ) → readable s ≡ true → length s ≤ limit
short s h = clear_fits s true (sym h) refl

-- `lint_with`
module _ (outer payload : List ℕ) (k : Option Survey) (h : SurveyedAs outer k) where
  module _ (list : List ℕ) (q : k ≡ None) where
    pub outer_answered : Err OuterBlock ≡ linted_of outer payload (length list)
    unfolding SurveyedAs
    outer_answered = answered outer payload list OuterBlock (first_outer outer payload (length list) (rw q at h))

    pub outer_left : list ≡ left_by_linting outer payload list
    unfolding SurveyedAs
    outer_left = left outer payload list OuterBlock (first_outer outer payload (length list) (rw q at h))

  pub walked : (room : ℕ) → Roomy outer payload room → (survey : Survey) → k ≡ Some survey
      → (text : List ℕ) → length text ≡ room → Walked outer survey payload text
  unfolding SurveyedAs
  walked room r survey q text l =
      let v : SurveyAs outer survey = rw q at h in
      record {
        surveyed = v;
        outer_fits = omega (arith, r.outer_fits, l, short outer (survey_readable outer survey v));
        payload_fits = omega (arith, r.payload_fits, l);
      }

pub ruleset opening = (outer_answered, outer_left, walked, rules)

-- `lint_walked`
module _ (outer : List ℕ) (survey : Survey) (payload text₀ : List ℕ) (h : Walked outer survey payload text₀) where
  outer_readable : readable outer ≡ true
  outer_readable = survey_readable outer survey h.surveyed

  module _ (r : Option ℕ) (t : r ≡ sender_of (sender_in (fields_in outer))) where
    module _ (list : List ℕ) (q : r ≡ None) where
      no_sender : sender_in (fields_in outer) ≡ None
      no_sender = answer_none (sender_in (fields_in outer)) (sym q ∙ t)

      pub sender_answered : Err Sender ≡ linted_of outer payload (length list)
      sender_answered = answered outer payload list Sender (first_sender outer payload (length list) outer_readable no_sender)

      pub sender_left : list ≡ left_by_linting outer payload list
      sender_left = left outer payload list Sender (first_sender outer payload (length list) outer_readable no_sender)

    module _ (out d : List ℕ) (l : out ≡ left_by_sender (sender_in (fields_in outer)) d) (n : ℕ) (q : r ≡ Some n) where
      pub address_within : n ≤ length out
      address_within = left_within (sender_in (fields_in outer)) r t out d l n q

      is_sender : sender_in (fields_in outer) ≡ Some (take n out)
      is_sender = (left_is (sender_in (fields_in outer)) r t out d l n q)

      module _ (b : Bool) (p : b ≡ readable payload) where
        pub payload_answered : (list : List ℕ) → b ≡ false → Err PayloadBlock ≡ linted_of outer payload (length list)
        payload_answered list f = answered outer payload list PayloadBlock (first_payload outer payload (length list) outer_readable _ is_sender (sym p ∙ f))

        pub payload_left : (list : List ℕ) → b ≡ false → list ≡ left_by_linting outer payload list
        payload_left list f = left outer payload list PayloadBlock (first_payload outer payload (length list) outer_readable _ is_sender (sym p ∙ f))

        pub sent : (text : List ℕ) → length text ≡ length text₀ → b ≡ true → Sent outer survey payload (take n out) text
        sent text e f =
            let y : readable payload ≡ true = sym p ∙ f in
            record {
              surveyed = h.surveyed;
              sent = is_sender;
              readably = y;
              outer_fits = omega (arith, h.outer_fits, e);
              payload_fits = omega (arith, h.payload_fits, e, short payload y);
            }

pub ruleset walking = (sender_answered, sender_left, address_within, payload_answered, payload_left, sent, rules)

-- `lint_sent`
module _ (outer : List ℕ) (survey : Survey) (payload sender text₀ : List ℕ) (h : Sent outer survey payload sender text₀) where
  pub readied : (text : List ℕ) → length text ≡ length text₀ → (m : Mail) → m.outer.now ≡ outer → m.payload.now ≡ payload → m.sender.now ≡ sender
      → Indexed m.recipients.now m.tags.now m.places.now → Readied m text
  readied text e m o p s x =
      record {
        outer_readable = rw o (survey_readable outer survey h.surveyed);
        payload_readable = rw p h.readably;
        canonical = rw s (sender_canonical (fields_in outer) sender h.sent);
        index = x;
        outer_fits = rw o (omega (arith, h.outer_fits, e));
        payload_fits = rw p (omega (arith, h.payload_fits, e));
      }

  module _ (roll tags places : List ℕ) (r : Rolled) (g : GatheredAs outer roll tags places r) (list : List ℕ) (m : Mail)
      (o : m.outer.now ≡ outer) (p : m.payload.now ≡ payload) (s : m.sender.now ≡ sender) (t : m.recipients.now ≡ take r.end roll) where
    faults_are : faults_with m ≡ mail_faults outer payload
    unfolding faults_with mail_faults or_else
    faults_are =
        let recipients = rw sub-zero at (gathered outer roll tags places r g) in
        rw (o, p, s, t, recipients, h.sent)

    rows_are : refused_linting outer payload (length list) ≡ first_of (list_rows (mail_faults outer payload) (length list))
    rows_are = first_list outer payload (length list) (survey_readable outer survey h.surveyed) sender h.sent h.readably

    pub sent_answered : (a : Result ℕ Refusal) → a ≡ listed_of (faults_with m) (length list) → a ≡ linted_of outer payload (length list)
    unfolding linted_of listed_of
    sent_answered a e = e ∙ rw (faults_are, rows_are)

    pub sent_left : (out : List ℕ) → out ≡ left_by_listing (faults_with m) list → out ≡ left_by_linting outer payload list
    unfolding left_by_linting left_by_listing
    sent_left out e = e ∙ rw (faults_are, rows_are)

pub ruleset sending = (enough_room, gathered_index, readied, rules)

pub ruleset finishing = (sent_answered, sent_left)

-- `lint`
module _ (outer payload : List ℕ) where
  pub roomy_short : length outer ≤ 8192 → length payload ≤ 8192 → Roomy outer payload 8192
  roomy_short o p = record { most = omega arith; outer_fits = omega arith; payload_fits = omega arith }

  pub roomy_long : Roomy outer payload 65536
  roomy_long = record { most = omega arith; outer_fits = omega arith; payload_fits = omega arith }

pub ruleset roomy = (roomy_short, roomy_long, rules)
