-- The field that counts: by the first two answers of `next_valid`.
--     count_first, count_second             what is asked for
--     count_none, count_two, count_one      the answer
-- Assumes nothing.
use Prim.Native.Nat.{ℕ}
use mathlib.Core.Path.{◌≡◌, ap, sym, ◌∙◌}
use mathlib.Core.List.{List, ◌∷◌}
use Rattle.std.specs.Prelude.{Option, Some, None}
use native.Mathlib.Omega.{arith}
use borrow.Author.Rules.{rules}
use lib.ListN.{length, take}
use Rattle.slots.specs.Slot.{key_limit}
use Rattle.keyfield.specs.Field.{Field, valid_fields}
use Rattle.keyfield.proofs.Counted.{counted_none, counted_one, counted_two}
use Rattle.fields.specs.Fields.{fields_in, values_of}
use Rattle.fields.specs.declared.Kind.TheVariants.{Autocrypt}
use Rattle.fields.specs.declared.Survey.{Survey}
use Rattle.keyowner.specs.Answers.{OwnAs}
use Rattle.keyowner.specs.declared.OwnKey.{OwnKey}
use Rattle.keys.specs.Keys.{counted_in}
use Rattle.keys.specs.Answers.{valid_from, Seeks, ValidAs, Weighs}
use Rattle.keys.specs.declared.Valid.{Valid}
use Rattle.keys.proofs.ValidFields.{valid_at, valid_none}

module _ (limit : ℕ) (sender s : List ℕ) (v : Survey) (text₀ key₀ : List ℕ) (c : Weighs limit s v sender text₀ key₀) where
  pub count_first : Seeks limit s v.autocrypt.first v.autocrypt.last sender text₀ key₀
  count_first =
      record {
        takes = record { clear = c.surveyed.autocrypt.clear; no_more = c.surveyed.autocrypt.no_more; room = c.room };
        canonical = c.canonical;
        key_room = c.key_room;
      }

  module _ (key : List ℕ) (k : Option Valid) (p : ValidAs limit sender s v.autocrypt.first key k) where
    abbrev values : List (List ℕ)
    values = values_of Autocrypt (fields_in s)

    abbrev begin : ℕ
    begin = v.autocrypt.first

    all : valid_fields limit sender values ≡ valid_from limit sender s begin
    unfolding valid_from
    all = ap (valid_fields limit sender) (sym c.surveyed.autocrypt.all)

    pub count_none : (o : Option OwnKey) → o ≡ None → k ≡ None → OwnAs limit sender (counted_in limit (fields_in s) sender) key o
    unfolding OwnAs counted_in
    count_none o z q = rw z (counted_none limit sender values (all ∙ valid_none limit sender s begin key k p q))

    module _ (u : Valid) (q : k ≡ Some u) where
      pub count_second : (text spare : List ℕ) → length text ≡ length text₀ → length spare ≡ key_limit → Seeks limit s u.end v.autocrypt.last sender text spare
      count_second text spare l w =
          record {
            takes =
                record {
                  clear = (valid_at limit sender s begin key k p u q).readable;
                  no_more = c.surveyed.autocrypt.no_more;
                  room = omega (arith, c.room);
                };
            canonical = c.canonical;
            key_room = omega (arith, c.spare_room);
          }

      module _ (spare : List ℕ) (j : Option Valid) (r : ValidAs limit sender s u.end spare j) where
        abbrev first : Field
        first = record { address = sender; is_mutual = u.own.«mutual»; key = take u.own.length key }

        front : valid_fields limit sender values ≡ first ∷ valid_from limit sender s u.end
        front = all ∙ (valid_at limit sender s begin key k p u q).first

        pub count_two : (w : Valid) → j ≡ Some w → OwnAs limit sender (counted_in limit (fields_in s) sender) key None
        unfolding OwnAs counted_in
        count_two w y =
            counted_two limit sender values first
            (record { address = sender; is_mutual = w.own.«mutual»; key = take w.own.length spare })
            (valid_from limit sender s w.end)
            (front ∙ ap (λ (fs : List Field). first ∷ fs) (valid_at limit sender s u.end spare j r w y).first)

        pub count_one : j ≡ None → OwnAs limit sender (counted_in limit (fields_in s) sender) key (Some u.own)
        unfolding OwnAs counted_in
        count_one y =
            record {
              is = counted_one limit sender values first (front ∙ ap (λ (fs : List Field). first ∷ fs) (valid_none limit sender s u.end spare j r y));
              opens = (valid_at limit sender s begin key k p u q).opens;
            }

pub ruleset counting = (count_first, count_second, count_none, count_two, count_one, rules)
