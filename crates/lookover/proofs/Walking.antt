-- The walk over a block: the faults of its fields, one field after the other.
--     laid_more, behind_more                numbers of faults written behind others
--     value_order, value_upto               where the value of a field stands
--     left                                  the fields from a place on
--     Walked                                the faults of the fields before the place `start` are written
--     look_judges, look_begin               what one field asks for, and the walk's begin
--     look_kept, look_room, look_place      what it needs on its way: the list's length, room in it, a place that fits
--     look_end                              its end
--     look_next                             its step
--     the ruleset                           walking, for `look_over`
-- Assumes nothing.
use Prim.Native.Nat.{ℕ, ◌+◌, ◌-◌, ◌*◌, ◌^◌, ◌<◌, ◌≤◌}
use mathlib.Core.Logic.{◌⊎◌, ⊎_elim}
use mathlib.Core.Path.{◌≡◌, refl, sym, ap, ◌∙◌}
use mathlib.Core.Bool.{Bool, true, false, ◌||◌, or-false, or_assoc}
use mathlib.Core.List.{List, [], ◌∷◌, ◌++◌, append_assoc, append-nil}
use native.Mathlib.Omega.{arith}
use borrow.Author.Rules.{rules}
use lib.ListN.{length, take, drop, length-append, length-take, length-drop}
use Rattle.octets.specs.Options.{is_some, or_else}
use Rattle.octets.proofs.Options.{else_front}
use Rattle.header.specs.Header.{FieldText, limit}
use Rattle.header.specs.Answers.{fields_from, step_at, field_at}
use Rattle.header.specs.declared.Step.{Step}
use Rattle.header.specs.declared.Step.TheVariants.{Over, Broken, Field}
use Rattle.header.proofs.Stepping.{Places, field_places, name_from, name_upto, field_less}
use Rattle.header.proofs.Fields.{from_over, from_field, fields_fit, clear_fits, clear_begin, clear_next, clear_whole}
use Rattle.fields.specs.Fields.{fields_in}
use Rattle.faults.specs.Faults.{Fault, kinds, faults_at, numbers_of}
use Rattle.faults.specs.Laying.{laid_at, room}
use Rattle.faults.proofs.Laying.{laid_none, laid_both, laid_long}
use Rattle.faults.proofs.Counting.{numbers_both, numbers_most}
use Rattle.lookover.specs.Looking.{side_number, valid_in, faults_from, valid_behind, faults_in}
use Rattle.lookover.specs.Answers.{Judges, FieldAs, Looks, LookedAs}
use Rattle.lookover.specs.declared.Side.{Side}
use Rattle.lookover.specs.declared.Judged.{Judged}

module _ (at to : ℕ) (d a : List Fault) (e : to ≡ at + length (numbers_of d)) where
  laid_more : (list₀ list out : List ℕ) → list ≡ laid_at list₀ at (numbers_of d) → out ≡ laid_at list to (numbers_of a) → out ≡ laid_at list₀ at (numbers_of (d ++ a))
  laid_more list₀ list out l q = q ∙ rw (l, e, numbers_both d a) (laid_both list₀ at (numbers_of d) (numbers_of a))

  behind_more : (next : ℕ) → next ≡ to + length (numbers_of a) → next ≡ at + length (numbers_of (d ++ a))
  behind_more next q = rw (numbers_both d a) (omega (arith, length-append (numbers_of d) (numbers_of a)))

-- the value of a field, which is lent on
module _ (s : List ℕ) (at n v e : ℕ) (r : Step) (t : r ≡ step_at s at) (q : r ≡ Field n v e) where
  pub value_order : v ≤ e
  value_order = (field_places s at n v e r t q).behind

  pub value_upto : e ≤ length s
  value_upto = (field_places s at n v e r t q).upto

-- the fields from a place on
abbrev pub left : List ℕ → ℕ → List FieldText
left s start = or_else [] (fields_from s start)

-- d is the list as it came and list as it is now, written from `at` to `to`; the field that begins at `start` is the one at `place`. A field takes an octet at
-- least, and has at most 21 numbers.
pub record Walked (side : Side) (sender : List ℕ) (recipients : List (List ℕ)) (s d : List ℕ) (at : ℕ) (list : List ℕ) (start place : ℕ) (seen : Bool) (to : ℕ) : Type 0 where
  pub found : List Fault
  pub so_far : faults_in side sender recipients (fields_in s) ≡ found ++ faults_from side sender recipients seen place (left s start)
  pub validly : valid_behind side sender (fields_in s) ≡ (seen || valid_behind side sender (left s start))
  pub laid : list ≡ laid_at d at (numbers_of found)
  pub behind : to ≡ at + length (numbers_of found)
  pub clear : is_some (fields_from s start) ≡ true
  pub fits : length s ≤ limit
  pub upto : start ≤ length s
  pub near : at ≤ 2147483648
  pub few : length (numbers_of found) ≤ 21 * start
  pub placed : place ≤ start + 1

module _ (s sender roll tags places text₀ : List ℕ) (at : ℕ) (c : Looks s sender roll tags places text₀ at) where
  pub look_judges : (text : List ℕ) → length text ≡ length text₀ → (v e : ℕ) → Judges (take (e - v) (drop v s)) sender roll tags places text
  look_judges text l v e =
      record {
        canonical = c.canonical;
        index = c.index;
        room = simp (length-take, length-drop) (omega (arith, c.room));
      }

  pub look_begin : (side : Side) (recipients : List (List ℕ)) (d : List ℕ) → Walked side sender recipients s d at d 0 1 false at
  unfolding faults_in fields_in numbers_of
  look_begin side recipients d =
      let fits : length s ≤ limit = clear_fits s true (sym c.readably) refl in
      record {
        found = [];
        so_far = rw (fields_fit s fits);
        validly = rw (fields_fit s fits);
        laid = sym (laid_none d at);
        behind = omega arith;
        clear = clear_begin s true (sym c.readably) refl;
        fits = fits;
        upto = omega arith;
        near = c.near;
        few = omega arith;
        placed = omega arith;
      }

module _ (side : Side) (sender : List ℕ) (recipients : List (List ℕ)) (s d : List ℕ) (at : ℕ) (list : List ℕ) (start place : ℕ) (seen : Bool) (to : ℕ)
    (h : Walked side sender recipients s d at list start place seen to) where
  pub look_kept : length list ≡ length d
  look_kept = ap length h.laid ∙ laid_long d at (numbers_of h.found)

  pub look_room : to + 21 ≤ room
  look_room = omega (arith, h.behind, h.near, h.few, h.upto, h.fits)

  pub look_place : place + 1 < 2 ^ 32
  look_place = omega (arith, h.placed, h.upto, h.fits)

  module _ (r : Step) (t : r ≡ step_at s start) where
    look_over : r ≡ Over → LookedAs side sender recipients s d at list (record { end = to; valid = seen })
    unfolding faults_from valid_behind or_else
    look_over q =
        let none_left : left s start ≡ [] = ap (or_else []) (from_over s start r t q) in
        let all : faults_in side sender recipients (fields_in s) ≡ h.found = rw none_left at h.so_far ∙ append-nil h.found in
        record {
          ended = rw all h.behind;
          laid = rw all h.laid;
          validly = sym (or-false seen) ∙ sym (rw none_left at h.validly);
        }

    look_broken : r ≡ Broken → LookedAs side sender recipients s d at list (record { end = to; valid = seen })
    look_broken q = absurd (clear_whole s start r h.clear t q)

    pub look_end : (r ≡ Over) ⊎ (r ≡ Broken) → LookedAs side sender recipients s d at list (record { end = to; valid = seen })
    look_end = ⊎_elim look_over look_broken

-- The field that stands there was judged, and the numbers of its faults are written. Each premise tells what the next ones speak of, as `search` asks it.
module _ (side : Side) (sender : List ℕ) (recipients : List (List ℕ)) (s d : List ℕ) (at : ℕ) (r : Step) (n v e : ℕ) (q : r ≡ Field n v e)
    (start : ℕ) (t : r ≡ step_at s start)
    (list : List ℕ) (place : ℕ) (seen : Bool) (to : ℕ) (h : Walked side sender recipients s d at list start place seen to)
    (j : Judged) (g : FieldAs side sender recipients seen (take (n - start) (drop start s)) (take (e - v) (drop v s)) j)
    (number : ℕ) (out : List ℕ) (next : ℕ) (o : out ≡ laid_at list to (numbers_of (faults_at number place (kinds j.flaws))))
    (p : next ≡ to + length (numbers_of (faults_at number place (kinds j.flaws)))) (k : number ≡ side_number side) where
  abbrev f : FieldText
  f = field_at s start n v e

  abbrev more : List Fault
  more = faults_at number place (kinds j.flaws)

  clear_behind : is_some (fields_from s e) ≡ true
  clear_behind = clear_next s start r h.clear t n v e q

  front : left s start ≡ f ∷ left s e
  front = ap (or_else []) (from_field s start r t n v e q) ∙ else_front f (fields_from s e) clear_behind

  lies : Places s start n v e
  lies = field_places s start n v e r t q

  parted : faults_from side sender recipients seen place (f ∷ left s e) ≡ more ++ faults_from side sender recipients (seen || j.valid) (place + 1) (left s e)
  unfolding faults_from
  parted = rw (k, g.flawed, g.validly)

  pub look_next : (m : ℕ) → m ≡ place + 1 → Walked side sender recipients s d at out e m (seen || j.valid) next
  unfolding valid_behind
  look_next m y =
      rw y
      (record {
        found = h.found ++ more;
        so_far =
            rw front at h.so_far
            ∙ ap (λ (l : List Fault). h.found ++ l) parted
            ∙ sym (append_assoc h.found more (faults_from side sender recipients (seen || j.valid) (place + 1) (left s e)));
        validly =
            rw front at h.validly
            ∙ rw g.validly (sym (or_assoc seen (valid_in side sender f) (valid_behind side sender (left s e))));
        laid = laid_more at to h.found more h.behind d list out h.laid o;
        behind = behind_more at to h.found more h.behind next p;
        clear = clear_behind;
        fits = h.fits;
        upto = lies.upto;
        near = h.near;
        few =
            rw (numbers_both h.found more)
            (omega (arith, length-append (numbers_of h.found) (numbers_of more), h.few, numbers_most j.flaws number place, lies));
        placed = omega (arith, h.placed, lies);
      })

pub ruleset walking =
    (look_judges, look_begin, look_kept, look_room, look_place, look_end, look_next, name_from, name_upto, value_order, value_upto, field_less, rules)
