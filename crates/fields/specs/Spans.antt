-- One walk over a block: whether it is readable (SCOPE, B1 and B8), and where the fields stand that are asked for (B12).
--     span_past, survey_new, survey_past    what the walk keeps, field by field
--     SpanAs, SurveyAs, SurveyedAs          what holds of it at the end
use Rattle.std.specs.Prelude.{ℕ, ◌≡◌, Bool, true, false, List, [], eqb, Option, Some, None}
use Rattle.octets.specs.Options.{is_some}
use Rattle.header.specs.Header.{readable}
use Rattle.header.specs.Answers.{fields_from}
use Rattle.fields.specs.Fields.{is_kind, fields_in, values_of}
use Rattle.fields.specs.Answers.{values_from}
use Rattle.fields.specs.declared.Kind.{Kind}
use Rattle.fields.specs.declared.Kind.TheVariants.{From, ContentType, Date, Autocrypt, Recipients}
use Rattle.fields.specs.declared.Span.{Span}
use Rattle.fields.specs.declared.Survey.{Survey}

-- A span with a field that begins at `at` and ends at `end`: only one of the kind changes it, the first both ends. No field ends at 0.
unfoldable pub span_past : Bool → ℕ → ℕ → Span → Span
span_past false at end v = v
span_past true at end v =
    elim (eqb v.last 0) [
      | true ↦ record { first = at; last = end }
      | false ↦ record { first = v.first; last = end }
    ]

unfoldable pub unseen : Span
unseen = record { first = 0; last = 0 }

unfoldable pub survey_new : Survey
survey_new = record { from = unseen; content = unseen; date = unseen; autocrypt = unseen; recipients = unseen }

unfoldable pub survey_past : List ℕ → ℕ → ℕ → Survey → Survey
survey_past name at end v =
    record {
      from = span_past (is_kind From name) at end v.from;
      content = span_past (is_kind ContentType name) at end v.content;
      date = span_past (is_kind Date name) at end v.date;
      autocrypt = span_past (is_kind Autocrypt name) at end v.autocrypt;
      recipients = span_past (is_kind Recipients name) at end v.recipients;
    }

-- All fields of the kind stand from the first place on, and none from the last on. Lines begin at both.
pub record SpanAs (kind : Kind) (s : List ℕ) (v : Span) : Type 0 where
  pub all : values_from kind s v.first ≡ values_of kind (fields_in s)
  pub no_more : values_from kind s v.last ≡ []
  pub clear : is_some (fields_from s v.first) ≡ true

pub record SurveyAs (s : List ℕ) (v : Survey) : Type 0 where
  pub readably : readable s ≡ true
  pub from : SpanAs From s v.from
  pub content : SpanAs ContentType s v.content
  pub date : SpanAs Date s v.date
  pub autocrypt : SpanAs Autocrypt s v.autocrypt
  pub recipients : SpanAs Recipients s v.recipients

unfoldable pub SurveyedAs : List ℕ → Option Survey → Type 0
SurveyedAs s (Some v) = SurveyAs s v
SurveyedAs s None = readable s ≡ false
