-- From the definitions of Fields.antt to what the code answers.
--     values_from            the values of the fields that are asked for, from a place of a block on
--     Lies, value_at         where a field's value stands in a block, and the value
--     NamedAt, NamedAs       the first of these, by its place
--     value_in, OnlyWithin   the one that has no other
use Rattle.std.specs.Prelude.{ℕ, ◌-◌, ◌<◌, ◌≤◌, ◌≡◌, true, List, [], ◌∷◌, length, take, drop}
use Rattle.std.specs.Prelude.{Option, Some, None}
use Rattle.octets.specs.Options.{is_some, or_else}
use Rattle.header.specs.Header.{unfolded}
use Rattle.header.specs.Answers.{fields_from}
use Rattle.fields.specs.Fields.{values_of}
use Rattle.fields.specs.declared.Kind.{Kind}
use Rattle.fields.specs.declared.Field.{Field}

-- the places of a field's value in a block
pub record Lies (s : List ℕ) (f : Field) : Type 0 where
  pub order : f.value ≤ f.end
  pub upto : f.end ≤ length s

-- B9: what stands there, unfolded
abbrev pub value_at : List ℕ → Field → List ℕ
value_at s f = unfolded (take (f.end - f.value) (drop f.value s))

unfoldable pub values_from : Kind → List ℕ → ℕ → List (List ℕ)
values_from kind s at = values_of kind (or_else [] (fields_from s at))

-- The first such field from the place `at` on, and that the rest stand from its end on.
pub record NamedAt (kind : Kind) (s : List ℕ) (at : ℕ) (f : Field) : Type 0 where
  pub first : values_from kind s at ≡ value_at s f ∷ values_from kind s f.end
  pub lies : Lies s f
  pub later : at < f.end
  pub readable : is_some (fields_from s f.end) ≡ true

abbrev pub NamedAs : Kind → List ℕ → ℕ → Option Field → Type 0
NamedAs kind s at (Some f) = NamedAt kind s at f
NamedAs kind s at None = values_from kind s at ≡ []

abbrev pub value_in : List ℕ → Option Field → Option (List ℕ)
value_in s (Some f) = Some (value_at s f)
value_in s None = None

abbrev pub OnlyWithin : List ℕ → Option Field → Type 0
OnlyWithin s (Some f) = Lies s f
OnlyWithin s None = Unit
