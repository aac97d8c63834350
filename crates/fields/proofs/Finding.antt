-- The first field of a kind from a place on.
--     Seeking kind s at place      no such field stands from `at` up to `place`
--     seek_begin .. seek_last      the steps of the loop that looks for the first one
-- Assumes nothing.
use Prim.Native.Nat.{ℕ, ◌-◌, ◌≤◌}
use mathlib.Core.Path.{◌≡◌, refl, sym, ◌∙◌}
use mathlib.Core.Bool.{Bool, true, false}
use mathlib.Core.List.{List, [], ◌∷◌}
use Rattle.std.specs.Prelude.{Some}
use native.Mathlib.Omega.{arith}
use borrow.Author.Rules.{rules}
use lib.ListN.{take, drop}
use Rattle.octets.specs.Options.{in_front, is_some, or_else}
use Rattle.header.specs.Answers.{fields_from, step_at, field_at}
use Rattle.header.specs.declared.Step.{Step}
use Rattle.header.specs.declared.Step.TheVariants.{Over, Broken, Field}
use Rattle.header.proofs.Stepping.{Places, field_places, name_from, name_upto, field_less}
use Rattle.header.proofs.Fields.{from_over, from_field, clear_next, clear_whole}
use Rattle.fields.specs.Fields.{is_kind, values_of}
use Rattle.fields.specs.Answers.{value_at, values_from, NamedAt}
use Rattle.fields.specs.declared.Kind.{Kind}
use Rattle.fields.specs.declared.Field.{Field as FieldAt}
use Rattle.fields.proofs.Values.{values_in, values_out, values_by}

pub record Seeking (kind : Kind) (s : List ℕ) (at place : ℕ) : Type 0 where
  pub same : values_from kind s at ≡ values_from kind s place
  pub clear : is_some (fields_from s place) ≡ true
  pub behind : at ≤ place

module _ (kind : Kind) (s : List ℕ) (at : ℕ) where
  pub seek_begin : is_some (fields_from s at) ≡ true → Seeking kind s at at
  seek_begin c = record { same = refl; clear = c; behind = omega arith }

  module _ (place : ℕ) (r : Step) (h : Seeking kind s at place) (t : r ≡ step_at s place) where
    pub seek_over : r ≡ Over → values_from kind s at ≡ []
    unfolding values_of or_else
    seek_over q = h.same ∙ values_by kind s place (Some []) (from_over s place r t q)

    pub seek_broken : r ≡ Broken → values_from kind s at ≡ []
    seek_broken q = absurd (clear_whole s place r h.clear t q)

  module _ (place : ℕ) (h : Seeking kind s at place) (n v e : ℕ) (q : Field n v e ≡ step_at s place) where
    clear_behind : is_some (fields_from s e) ≡ true
    clear_behind = clear_next s place (Field n v e) h.clear q n v e refl

    lies : Places s place n v e
    lies = field_places s place n v e (Field n v e) q refl

    module _ (b : Bool) (u : b ≡ is_kind kind (take (n - place) (drop place s))) where
      front : values_from kind s at ≡ values_of kind (or_else [] (in_front (field_at s place n v e) (fields_from s e)))
      front = h.same ∙ values_by kind s place (in_front (field_at s place n v e) (fields_from s e)) (from_field s place (Field n v e) q n v e refl)

      first : b ≡ true → values_from kind s at ≡ value_at s (record { value = v; end = e }) ∷ values_from kind s e
      unfolding values_from
      first y = front ∙ values_in kind (field_at s place n v e) (fields_from s e) (sym u ∙ y) clear_behind

      pub seek_next : b ≡ false → Seeking kind s at e
      unfolding values_from
      seek_next y =
          record {
            same = front ∙ values_out kind (field_at s place n v e) (fields_from s e) (sym u ∙ y);
            clear = clear_behind;
            behind = omega (arith, h.behind, lies);
          }

  pub seek_found : (place : ℕ) → Seeking kind s at place → (f : FieldAt) (n : ℕ) → Field n f.value f.end ≡ step_at s place
      → (b : Bool) → b ≡ is_kind kind (take (n - place) (drop place s)) → b ≡ true → NamedAt kind s at f
  seek_found place h f n q b u y =
      let l : Places s place n f.value f.end = lies place h n f.value f.end q in
      record {
        first = first place h n f.value f.end q b u y;
        lies = record { order = l.behind; upto = l.upto };
        later = omega (arith, h.behind, l);
        readable = clear_behind place h n f.value f.end q;
      }

  pub seek_last : (place last : ℕ) → Seeking kind s at place → values_from kind s last ≡ [] → place ≡ last → values_from kind s at ≡ []
  seek_last place last h n e = h.same ∙ rw e n

pub ruleset seeking = (seek_begin, seek_last, seek_over, seek_broken, seek_found, seek_next, name_from, name_upto, field_less, rules)
