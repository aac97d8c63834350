-- Reports: the loop over the Content-Type fields.
--     Looking s at             the answer on the block is that on its Content-Type fields from `at` on
--     look_begin .. look_next  the loop's steps
-- Assumes nothing.
use Prim.Native.Nat.{ℕ}
use mathlib.Core.Path.{◌≡◌, sym, ap, ◌∙◌}
use mathlib.Core.Bool.{Bool, true, false, ◌||◌}
use mathlib.Core.List.{List, []}
use borrow.Author.Rules.{rules}
use lib.ListN.{length, take}
use Rattle.octets.specs.Written.{onto}
use Rattle.octets.specs.Options.{is_some}
use Rattle.header.specs.Header.{is_report}
use Rattle.header.specs.Answers.{fields_from}
use Rattle.header.proofs.Unfolding.{value_within, value_there, value_long}
use Rattle.fields.specs.Fields.{fields_in}
use Rattle.fields.specs.Answers.{value_at, values_from, NamedAt}
use Rattle.fields.specs.Spans.{SurveyAs}
use Rattle.fields.specs.declared.Kind.TheVariants.{ContentType}
use Rattle.fields.specs.declared.Survey.{Survey}
use Rattle.fields.specs.declared.Field.{Field}
use Rattle.outer.specs.Outer.{any_report, is_reported}

pub record Looking (s : List ℕ) (at : ℕ) : Type 0 where
  pub same : is_reported (fields_in s) ≡ any_report (values_from ContentType s at)
  pub clear : is_some (fields_from s at) ≡ true

pub look_begin : (s : List ℕ) (v : Survey) → SurveyAs s v → Looking s v.content.first
unfolding is_reported
look_begin s v c = record { same = ap any_report (sym c.content.all); clear = c.content.clear }

pub look_last : (s : List ℕ) (v : Survey) → SurveyAs s v → values_from ContentType s v.content.last ≡ []
look_last s v c = c.content.no_more

pub look_clear : (s : List ℕ) (at : ℕ) → Looking s at → is_some (fields_from s at) ≡ true
look_clear s at h = h.clear

module _ (s : List ℕ) (at : ℕ) (h : Looking s at) where
  pub look_end : values_from ContentType s at ≡ [] → false ≡ is_reported (fields_in s)
  unfolding any_report
  look_end p = sym (h.same ∙ ap any_report p)

  module _ (f : Field) (p : NamedAt ContentType s at f) (text d : List ℕ) (n : ℕ) (c : n ≡ length (value_at s f)) (t : text ≡ onto (value_at s f) d)
      (b : Bool) (u : b ≡ is_report (take n text)) where
    first : is_reported (fields_in s) ≡ (b || any_report (values_from ContentType s f.end))
    unfolding any_report
    first = h.same ∙ rw (p.first, u, value_there (value_at s f) d text n c t)

    pub look_found : b ≡ true → true ≡ is_reported (fields_in s)
    look_found y = sym (rw y at first)

    pub look_next : b ≡ false → Looking s f.end
    look_next y = record { same = rw y at first; clear = p.readable }

pub ruleset looking = (look_begin, look_last, look_clear, look_end, look_found, look_next, value_within, value_long, rules)
