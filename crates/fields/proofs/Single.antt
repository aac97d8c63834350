-- The one field of a kind that has no other: by the first two answers of `find`.
--     single_none .. single_two      the answer
-- Assumes nothing.
use Prim.Native.Nat.{ℕ}
use mathlib.Core.Path.{◌≡◌, ap}
use mathlib.Core.List.{List, ◌∷◌}
use Rattle.std.specs.Prelude.{Some, None}
use borrow.Author.Rules.{rules}
use Rattle.octets.specs.Options.{only_one}
use Rattle.fields.specs.Fields.{fields_in, values_of}
use Rattle.fields.specs.Answers.{value_at, values_from, NamedAs, value_in}
use Rattle.fields.specs.Spans.{SpanAs}
use Rattle.fields.specs.declared.Kind.{Kind}
use Rattle.fields.specs.declared.Span.{Span}
use Rattle.fields.specs.declared.Field.{Field}

module _ (kind : Kind) (s : List ℕ) (x : Span) (c : SpanAs kind s x) where
  all : only_one (values_from kind s x.first) ≡ only_one (values_of kind (fields_in s))
  all = ap only_one c.all

  pub single_none : NamedAs kind s x.first None → value_in s None ≡ only_one (values_of kind (fields_in s))
  unfolding only_one
  single_none p = rw p at all

  module _ (f : Field) (p : NamedAs kind s x.first (Some f)) where
    first : only_one (value_at s f ∷ values_from kind s f.end) ≡ only_one (values_of kind (fields_in s))
    first = rw p.first at all

    pub single_one : NamedAs kind s f.end None → value_in s (Some f) ≡ only_one (values_of kind (fields_in s))
    unfolding only_one
    single_one r = rw r at first

    pub single_two : (g : Field) → NamedAs kind s f.end (Some g) → value_in s None ≡ only_one (values_of kind (fields_in s))
    unfolding only_one
    single_two g r = rw r.first at first

pub ruleset single = (single_none, single_one, single_two, rules)
