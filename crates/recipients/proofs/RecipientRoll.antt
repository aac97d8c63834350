-- The roll of the recipients: the loop over the To, Cc and Reply-To fields.
--     values_room, block_room      the addresses in some values of a block take no more octets in a roll than the block
--     addresses_plain              they are plain
--     Gathering                    those of the fields before the place `at` are in the roll
--     gather_roomy .. gather_on    the loop's steps
--     enough_room                  memory that is long enough for every block
--     gathered .. gathered_places  what a caller reads off the memory
-- Assumes nothing.
use Prim.Native.Nat.{ℕ, ◌-◌, ◌≤◌}
use mathlib.Core.Path.{◌≡◌, refl, sym, ap, ◌∙◌}
use mathlib.Core.Bool.{true}
use mathlib.Core.List.{List, [], ◌∷◌, ◌++◌, append_assoc, append-nil}
use Rattle.std.specs.Prelude.{Option, Some, None}
use native.Mathlib.Omega.{arith}
use lib.ListN.{length, take, drop}
use Rattle.octets.specs.Written.{onto}
use Rattle.octets.specs.Options.{is_some, or_else}
use Rattle.octets.specs.Tests.{every}
use Rattle.octets.proofs.Options.{total_none, total_one, total_less}
use Rattle.octets.proofs.Tests.{by_test}
use Rattle.octets.proofs.Every.{every_append}
use Rattle.address.specs.Address.{plain}
use Rattle.header.specs.Header.{FieldText, fields_of}
use Rattle.header.specs.Answers.{fields_from}
use Rattle.header.proofs.Fields.{clear_fits}
use Rattle.header.proofs.Values.{values_total, total_block}
use Rattle.header.proofs.Unfolding.{value_there}
use Rattle.roll.specs.Roll.{rolled, unrolled, listed_in}
use Rattle.roll.specs.Index.{Indexed}
use Rattle.roll.specs.Growing.{in_roll, Kept, Roomy, Adds, Grew}
use Rattle.roll.specs.declared.Rolled.{Rolled}
use Rattle.roll.proofs.Rolls.{rolled_none, listed_plain}
use Rattle.roll.proofs.Room.{lists_room, rolled_least, roomy_front}
use Rattle.roll.proofs.Growing.{begin_none, kept_begin, kept_within, kept_tags, kept_places, kept_list, kept_index}
use Rattle.fields.specs.Fields.{fields_in, is_kind, values_of}
use Rattle.fields.specs.Answers.{value_at, values_from, NamedAt}
use Rattle.fields.specs.Spans.{SurveyAs}
use Rattle.fields.specs.declared.Kind.{Kind}
use Rattle.fields.specs.declared.Survey.{Survey}
use Rattle.fields.specs.declared.Kind.TheVariants.{Recipients}
use Rattle.fields.specs.declared.Field.{Field}
use Rattle.fields.proofs.Walking.{survey_readable}
use Rattle.outer.specs.Outer.{addresses_in, recipients_in}
use Rattle.recipients.specs.Answers.{Gathers, GatheredAs}

-- the addresses of the first of some values
addresses_one : (v : List ℕ) (rest : List (List ℕ)) → addresses_in (v ∷ rest) ≡ listed_in v ++ addresses_in rest
unfolding addresses_in listed_in
addresses_one v rest = refl

pub values_room : (kind : Kind) (fs : List FieldText) → length (rolled (addresses_in (values_of kind fs))) ≤ values_total fs
unfolding values_of addresses_in
values_room kind [] = omega (arith, ap length rolled_none)
values_room kind (f ∷ fs) =
    by_test (is_kind kind f.name)
    (λ e.
    rw (values_of, e, addresses_one f.value (values_of kind fs), total_one (λ (x : FieldText). x.value) f fs)
    (lists_room f.value (addresses_in (values_of kind fs)) (values_total fs) (values_room kind fs)))
    (λ e. rw (values_of, e) (omega (arith, values_room kind fs, total_less (λ (x : FieldText). x.value) f fs)))

pub block_room : (kind : Kind) (s : List ℕ) → length (rolled (addresses_in (values_of kind (fields_in s)))) ≤ length s
unfolding fields_in or_else
block_room kind s = go (fields_of s) refl
  where
    go : (o : Option (List FieldText)) → fields_of s ≡ o → length (rolled (addresses_in (values_of kind (or_else [] (fields_of s))))) ≤ length s
    go None e = rw e (omega (arith, values_room kind [], total_none (λ (x : FieldText). x.value)))
    go (Some fs) e = rw e (omega (arith, values_room kind fs, total_block s fs e))

pub addresses_plain : (values : List (List ℕ)) → every plain (addresses_in values) ≡ true
unfolding addresses_in every
addresses_plain [] = refl
addresses_plain (v ∷ rest) =
    rw (addresses_one v rest, every_append plain (listed_in v) (addresses_in rest), listed_plain v) (addresses_plain rest)

-- the memory as it came, and as it is now
pub record Gathering (s roll tags places rolls numbers spots : List ℕ) (so : Rolled) (at : ℕ) : Type 0 where
  pub kept : Kept rolls numbers spots so
  pub so_far : in_roll so rolls ++ addresses_in (values_from Recipients s at) ≡ recipients_in (fields_in s)
  pub clear : is_some (fields_from s at) ≡ true
  pub roomy : Roomy (recipients_in (fields_in s)) roll tags places
  pub roll_same : length rolls ≡ length roll
  pub tags_same : length numbers ≡ length tags
  pub places_same : length spots ≡ length places

module _ (s : List ℕ) (v : Survey) (text roll tags places : List ℕ) (c : Gathers s v text roll tags places) where
  pub gather_roomy : Roomy (recipients_in (fields_in s)) roll tags places
  unfolding recipients_in
  gather_roomy =
      let n = rolled_least (addresses_in (values_of Recipients (fields_in s))) (addresses_plain (values_of Recipients (fields_in s))) in
      record {
        octets = omega (arith, block_room Recipients s, c.octets);
        short = c.short;
        numbers = omega (arith, n, block_room Recipients s, c.numbers);
        spots = omega (arith, n, block_room Recipients s, c.spots);
      }

  pub gather_begin : Gathering s roll tags places roll tags places (record { end = 0; many = 0 }) v.recipients.first
  unfolding recipients_in
  gather_begin =
      record {
        kept = kept_begin roll tags places (record { end = 0; many = 0 }) refl refl;
        so_far =
            rw (begin_none roll (record { end = 0; many = 0 }) refl) (ap addresses_in c.surveyed.recipients.all);
        clear = c.surveyed.recipients.clear;
        roomy = gather_roomy;
        roll_same = refl;
        tags_same = refl;
        places_same = refl;
      }

module _ (s roll tags places rolls numbers spots : List ℕ) (so : Rolled) (at : ℕ)
    (h : Gathering s roll tags places rolls numbers spots so at) where
  pub gather_end : values_from Recipients s at ≡ [] → GatheredAs s rolls numbers spots so
  unfolding addresses_in
  gather_end p =
      record {
        kept = h.kept;
        list = sym (append-nil (in_roll so rolls)) ∙ rw p at h.so_far;
      }

  -- the value of a field was unfolded to the text
  module _ (f : Field) (p : NamedAt Recipients s at f) (text t₀ : List ℕ) (n : ℕ) (c : n ≡ length (value_at s f)) (t : text ≡ onto (value_at s f) t₀) where
    abbrev added : List (List ℕ)
    added = listed_in (take n text)

    more : (in_roll so rolls ++ added) ++ addresses_in (values_from Recipients s f.end) ≡ recipients_in (fields_in s)
    more =
        append_assoc (in_roll so rolls) added (addresses_in (values_from Recipients s f.end))
        ∙ rw (
          value_there (value_at s f) t₀ text n c t,
          ← addresses_one (value_at s f) (values_from Recipients s f.end),
          ← p.first,
        ) h.so_far

    pub gather_adds : Adds rolls numbers spots so (listed_in (take n text))
    gather_adds =
        record {
          kept = h.kept;
          plainly = listed_plain (take n text);
          roomy =
              roomy_front (in_roll so rolls ++ added) (addresses_in (values_from Recipients s f.end)) roll tags places rolls numbers spots (rw more h.roomy) h.roll_same
              h.tags_same
              h.places_same;
        }

    pub gather_on :
        (out numbers₂ spots₂ : List ℕ) (r : Rolled) → Grew rolls so (listed_in (take n text)) out r → Kept out numbers₂ spots₂ r
        → length out ≡ length rolls → length numbers₂ ≡ length numbers → length spots₂ ≡ length spots
        → Gathering s roll tags places out numbers₂ spots₂ r f.end
    gather_on out numbers₂ spots₂ r g w l i j =
        record {
          kept = w;
          so_far = rw g.grown more;
          clear = p.readable;
          roomy = h.roomy;
          roll_same = l ∙ h.roll_same;
          tags_same = i ∙ h.tags_same;
          places_same = j ∙ h.places_same;
        }

-- what a caller lends: memory for the longest block (B1)
pub enough_room : (s : List ℕ) (survey : Survey) (text roll tags places : List ℕ) → SurveyAs s survey → length s ≤ length text
    → length roll ≡ 65536 → length tags ≡ 16384 → length places ≡ 16384 → Gathers s survey text roll tags places
enough_room s survey text roll tags places v t r l p =
    let n : length s ≤ 65536 = clear_fits s true (sym (survey_readable s survey v)) refl in
    record {
      surveyed = v;
      texts = t;
      octets = omega (arith, n, r);
      short = omega (arith, r);
      numbers = omega (arith, n, l);
      spots = omega (arith, n, p);
    }

-- what a caller reads off the memory: the recipients, and the parts that are their roll and its index
module _ (s roll tags places : List ℕ) (r : Rolled) (h : GatheredAs s roll tags places r) where
  pub gathered : unrolled (take (r.end - 0) (drop 0 roll)) ≡ recipients_in (fields_in s)
  gathered = kept_list roll tags places r h.kept ∙ h.list

  pub gathered_index : Indexed (take (r.end - 0) (drop 0 roll)) (take (r.many - 0) (drop 0 tags)) (take (r.many - 0) (drop 0 places))
  gathered_index = kept_index roll tags places r h.kept

  pub gathered_within : r.end ≤ length roll
  gathered_within = kept_within roll tags places r h.kept

  pub gathered_tags : r.many ≤ length tags
  gathered_tags = kept_tags roll tags places r h.kept

  pub gathered_places : r.many ≤ length places
  gathered_places = kept_places roll tags places r h.kept
