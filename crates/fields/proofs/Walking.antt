-- The walk over a block.
--     Passed kind s v at           the span v is that of the fields of a kind up to the place `at`
--     Walked s v at                of each kind that is asked for; the block is readable if it is from `at` on
--     walk_begin .. walk_next      the walk's steps
--     survey_readable, surveyed_as what a caller asks of the answer
-- Assumes nothing.
use Rattle.std.specs.Prelude.{Option, Some, None}
use Prim.Native.Nat.{ℕ, ◌-◌, ◌<◌, ◌≤◌}
use mathlib.Core.Path.{◌≡◌, refl, sym, ap, ◌∙◌}
use mathlib.Core.Bool.{Bool, true, false}
use mathlib.Core.List.{List, []}
use borrow.Author.Rules.{rules}
use borrow.Author.Tests.{eqb-true}
use lib.Dec.{eqb}
use lib.ListN.{length, take, drop}
use Rattle.octets.specs.Options.{is_some, or_else}
use Rattle.header.specs.Header.{limit, readable}
use Rattle.header.specs.Answers.{fields_from, step_at, field_at}
use Rattle.header.specs.declared.Step.{Step}
use Rattle.header.specs.declared.Step.TheVariants.{Over, Broken, Field}
use Rattle.header.proofs.Stepping.{name_from, name_upto, field_less}
use Rattle.header.proofs.Fields.{Legible, from_over, from_field, fields_fit, read_long, read_begin, read_over, read_broken, read_next}
use Rattle.fields.specs.Fields.{is_kind, values_of}
use Rattle.fields.specs.Answers.{values_from}
use Rattle.fields.specs.Spans.{span_past, unseen, survey_new, survey_past, SpanAs, SurveyAs, SurveyedAs}
use Rattle.fields.specs.declared.Kind.{Kind}
use Rattle.fields.specs.declared.Kind.TheVariants.{From, ContentType, Date, Autocrypt, Recipients}
use Rattle.fields.specs.declared.Span.{Span}
use Rattle.fields.specs.declared.Survey.{Survey}
use Rattle.fields.proofs.Values.{values_out, values_all}

pub record Passed (kind : Kind) (s : List ℕ) (v : Span) (at : ℕ) : Type 0 where
  pub all : values_from kind s v.first ≡ values_from kind s 0
  pub no_more : values_from kind s v.last ≡ values_from kind s at
  pub clear : is_some (fields_from s v.first) ≡ is_some (fields_from s 0)

module _ (kind : Kind) (s : List ℕ) where
  pass_begin : Passed kind s unseen 0
  unfolding unseen
  pass_begin = record { all = refl; no_more = refl; clear = refl }

  pass_end : (v : Span) (at : ℕ) → Passed kind s v at → values_from kind s at ≡ [] → readable s ≡ true → is_some (fields_from s 0) ≡ true → SpanAs kind s v
  pass_end v at h e c b =
      record {
        all = h.all ∙ values_all kind s c;
        no_more = h.no_more ∙ e;
        clear = h.clear ∙ b;
      }

  -- with the field that stands at the place `at`
  module _ (at : ℕ) (r : Step) (t : r ≡ step_at s at) (n x e : ℕ) (q : r ≡ Field n x e) (v : Span) (h : Passed kind s v at)
      (same : is_some (fields_from s 0) ≡ is_some (fields_from s at)) where
    abbrev name : List ℕ
    name = take (n - at) (drop at s)

    other : is_kind kind name ≡ false → Passed kind s v e
    unfolding values_from
    other k =
        record {
          all = h.all;
          no_more =
              h.no_more
              ∙ ap (λ o. values_of kind (or_else [] o)) (from_field s at r t n x e q)
              ∙ values_out kind (field_at s at n x e) (fields_from s e) k;
          clear = h.clear;
        }

    pass_next : Passed kind s (span_past (is_kind kind name) at e v) e
    unfolding span_past
    pass_next = go (is_kind kind name) refl (eqb v.last 0) refl
      where
        go : (b : Bool) → is_kind kind name ≡ b → (z : Bool) → eqb v.last 0 ≡ z → Passed kind s (span_past b at e v) e
        go false k z q = other k
        go true k true q =
            rw (span_past, q) (record { all = sym h.no_more ∙ ap (values_from kind s) (eqb-true v.last 0 q); no_more = refl; clear = sym same })
        go true k false q = rw (span_past, q) (record { all = h.all; no_more = refl; clear = h.clear })

pub record Walked (s : List ℕ) (v : Survey) (at : ℕ) : Type 0 where
  pub fits : length s ≤ limit
  pub legible : Legible s at
  pub from : Passed From s v.from at
  pub content : Passed ContentType s v.content at
  pub date : Passed Date s v.date at
  pub autocrypt : Passed Autocrypt s v.autocrypt at
  pub recipients : Passed Recipients s v.recipients at

pub walk_long : (s : List ℕ) → limit < length s → SurveyedAs s None
unfolding SurveyedAs
walk_long s h = sym (read_long s h)

pub walk_begin : (s : List ℕ) (v : Survey) → v ≡ survey_new → length s ≤ limit → Walked s v 0
unfolding survey_new
walk_begin s v e h =
    rw e
    (record {
      fits = h;
      legible = read_begin s h;
      from = pass_begin From s;
      content = pass_begin ContentType s;
      date = pass_begin Date s;
      autocrypt = pass_begin Autocrypt s;
      recipients = pass_begin Recipients s;
    })

module _ (s : List ℕ) (v : Survey) (at : ℕ) (r : Step) (h : Walked s v at) (t : r ≡ step_at s at) where
  pub walk_over : r ≡ Over → SurveyedAs s (Some v)
  unfolding SurveyedAs values_from values_of or_else
  walk_over q =
      record {
        readably = c;
        from = pass_end From s v.from at h.from (rest From) c b;
        content = pass_end ContentType s v.content at h.content (rest ContentType) c b;
        date = pass_end Date s v.date at h.date (rest Date) c b;
        autocrypt = pass_end Autocrypt s v.autocrypt at h.autocrypt (rest Autocrypt) c b;
        recipients = pass_end Recipients s v.recipients at h.recipients (rest Recipients) c b;
      }
    where
      c : readable s ≡ true
      c = sym (read_over s at r h.legible t q)

      b : is_some (fields_from s 0) ≡ true
      b = sym (ap is_some (fields_fit s h.fits)) ∙ c

      rest : (kind : Kind) → values_from kind s at ≡ []
      rest kind = rw (from_over s at r t q)

  pub walk_broken : r ≡ Broken → SurveyedAs s None
  unfolding SurveyedAs
  walk_broken q = sym (read_broken s at r h.legible t q)

  pub walk_next : (n x e : ℕ) → r ≡ Field n x e → (w : Survey) → w ≡ survey_past (take (n - at) (drop at s)) at e v → Walked s w e
  unfolding survey_past
  walk_next n x e q w p =
      rw p
      (record {
        fits = h.fits;
        legible = read_next s at r h.legible t n x e q;
        from = pass_next From s at r t n x e q v.from h.from same;
        content = pass_next ContentType s at r t n x e q v.content h.content same;
        date = pass_next Date s at r t n x e q v.date h.date same;
        autocrypt = pass_next Autocrypt s at r t n x e q v.autocrypt h.autocrypt same;
        recipients = pass_next Recipients s at r t n x e q v.recipients h.recipients same;
      })
    where
      same : is_some (fields_from s 0) ≡ is_some (fields_from s at)
      same = sym (ap is_some (fields_fit s h.fits)) ∙ h.legible.same

pub ruleset walking = (walk_long, walk_begin, walk_over, walk_broken, walk_next, name_from, name_upto, field_less, rules)

pub survey_readable : (s : List ℕ) (v : Survey) → SurveyAs s v → readable s ≡ true
survey_readable s v h = h.readably

pub surveyed_as : (s : List ℕ) (k : Option Survey) → SurveyedAs s k → (v : Survey) → k ≡ Some v → SurveyAs s v
unfolding SurveyedAs
surveyed_as s k h v q = rw q at h
