-- A walk over the fields of a kind, for the first that comes to something.
--     take_value, take_none           the value of the next field
--     Past f kind s at place          the values of the kind from `at` up to `place` come to nothing
--     past_begin, past_takes          where the walk begins, and what it asks for at a place
--     past_end, past_next, past_found     there is no further value, one that comes to nothing, and one that does not
--     taken_within .. taken_less      what the walk asks of a value
-- Assumes nothing.
use Prim.Native.Nat.{ℕ, ◌-◌, ◌<◌, ◌≤◌}
use mathlib.Core.Path.{◌≡◌, refl, sym, ap, ◌∙◌}
use mathlib.Core.Bool.{true}
use mathlib.Core.List.{List, [], ◌∷◌}
use Rattle.std.specs.Prelude.{Option, Some, None}
use native.Mathlib.Omega.{arith}
use borrow.Author.Rules.{rules}
use lib.ListN.{length, take}
use Rattle.octets.specs.Written.{onto}
use Rattle.octets.specs.Options.{is_some}
use Rattle.header.specs.Answers.{fields_from}
use Rattle.header.proofs.Unfolding.{value_within, value_there}
use Rattle.keyfield.specs.Field.{chosen}
use Rattle.keyfield.proofs.Chosen.{chosen_skip, chosen_next}
use Rattle.fields.specs.Answers.{value_at, values_from, NamedAt}
use Rattle.fields.specs.declared.Kind.{Kind}
use Rattle.fields.specs.declared.Field.{Field}
use Rattle.keys.specs.Answers.{Takes, TakenAt, TakenAs}
use Rattle.keys.specs.declared.Taken.{Taken}
use Rattle.keys.specs.declared.Taken.TheVariants.{Value, NoValue}

-- the value of the next field, unfolded to the text
module _ (kind : Kind) (s : List ℕ) (at : ℕ) where
  pub take_none : values_from kind s at ≡ [] → (text : List ℕ) → TakenAs kind s at text NoValue
  unfolding TakenAs
  take_none p text = p

  pub take_value :
      (f : Field) → NamedAt kind s at f → (text d : List ℕ) (n : ℕ) → n ≡ length (value_at s f) → text ≡ onto (value_at s f) d
      → TakenAs kind s at text (Value n f.end)
  unfolding TakenAs
  take_value f p text d n c t =
      record {
        first = p.first ∙ ap (λ (x : List ℕ). x ∷ values_from kind s f.end) (sym (value_there (value_at s f) d text n c t));
        within = value_within (value_at s f) d text n c t;
        later = p.later;
        upto = p.lies.upto;
        readable = p.readable;
      }

pub ruleset taking = (take_none, take_value, rules)

pub record Past {A : Type 0} (f : List ℕ → Option A) (kind : Kind) (s : List ℕ) (at place : ℕ) : Type 0 where
  pub same : chosen f (values_from kind s at) ≡ chosen f (values_from kind s place)
  pub clear : is_some (fields_from s place) ≡ true
  pub behind : at ≤ place

module _ {A : Type 0} (f : List ℕ → Option A) (kind : Kind) (s : List ℕ) (at : ℕ) where
  pub past_begin : is_some (fields_from s at) ≡ true → Past f kind s at at
  past_begin c = record { same = refl; clear = c; behind = omega arith }

  module _ (place : ℕ) (h : Past f kind s at place) where
    pub past_takes : (last : ℕ) (text : List ℕ) → values_from kind s last ≡ [] → length s ≤ length text → Takes kind s place last text
    past_takes last text z l = record { clear = h.clear; no_more = z; room = l }

    module _ (text : List ℕ) (r : Taken) (p : TakenAs kind s place text r) where
      pub past_end : r ≡ NoValue → chosen f (values_from kind s at) ≡ []
      unfolding TakenAs chosen
      past_end q = let z : values_from kind s place ≡ [] = rw q at p in h.same ∙ rw z

      module _ (n e : ℕ) (q : r ≡ Value n e) where
        taken : TakenAt kind s place text n e
        unfolding TakenAs
        taken = rw q at p

        front : chosen f (values_from kind s at) ≡ chosen f (take n text ∷ values_from kind s e)
        front = h.same ∙ ap (chosen f) taken.first

        pub past_next : f (take n text) ≡ None → Past f kind s at e
        past_next y =
            record {
              same = front ∙ chosen_skip f (take n text) (values_from kind s e) y;
              clear = taken.readable;
              behind = omega (arith, h.behind, taken.later);
            }

        pub past_found : (x : A) → f (take n text) ≡ Some x → chosen f (values_from kind s at) ≡ x ∷ chosen f (values_from kind s e)
        past_found x y = front ∙ chosen_next f (take n text) (values_from kind s e) x y

        pub past_later : at < e
        past_later = omega (arith, h.behind, taken.later)

-- of a value
module _ (kind : Kind) (s : List ℕ) (at : ℕ) (text : List ℕ) (r : Taken) (p : TakenAs kind s at text r) (n e : ℕ) (q : r ≡ Value n e) where
  there : TakenAt kind s at text n e
  unfolding TakenAs
  there = rw q at p

  pub taken_within : n ≤ length text
  taken_within = there.within

  pub taken_upto : e ≤ length s
  taken_upto = there.upto

  pub taken_readable : is_some (fields_from s e) ≡ true
  taken_readable = there.readable

  pub taken_less : length s - e < length s - at
  taken_less = omega (arith, there.later, there.upto)
