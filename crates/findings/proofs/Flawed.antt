-- What is wrong with one field, kind by kind.
--     Kinded, kinded                              the kinds that a field has
--     not_both                                    no field has both names
--     flaws_own, flaws_gossip, flaws_none         what is wrong with a field, by its name
--     valid, Turn, turn, behind_valid             the valid fields among some, and whether there are any
--     behind_none, none_behind                    there are none
--     behind_some, some_behind                    there are
--     names_it, names_not                         a value that names the sender
--     lists_it, lists_not                         a value that names a recipient
-- Assumes nothing.
use Prim.Native.Nat.{ℕ}
use mathlib.Core.Path.{◌≡◌, refl, sym, ap, ◌∙◌}
use mathlib.Core.Bool.{Bool, true, false, not, false≢true}
use mathlib.Core.List.{List, [], ◌∷◌}
use Rattle.std.specs.Prelude.{Some}
use native.Mathlib.Omega.{arith}
use borrow.Author.Tests.{eqb-true, not-false}
use lib.Dec.{eqb}
use lib.ListN.{length}
use Rattle.octets.specs.Octets.{lowered, same_octets, same_name}
use Rattle.octets.specs.Options.{is_some}
use Rattle.octets.proofs.Tests.{by_test}
use Rattle.octets.proofs.Letters.{length_lowered}
use Rattle.octets.proofs.Comparing.{same_true, same_refl}
use Rattle.octets.proofs.Options.{by_option}
use Rattle.names.specs.Names as names
use Rattle.header.specs.Header.{FieldText}
use Rattle.fields.specs.Fields.{is_kind, values_of}
use Rattle.fields.specs.declared.Kind.TheVariants.{Autocrypt, AutocryptGossip}
use Rattle.fields.proofs.Values.{values_first, values_other}
use Rattle.addresslist.specs.List.{among}
use Rattle.slots.specs.Slot.{key_limit}
use Rattle.keyfield.specs.Field.{Field, valid_for, chosen, valid_fields}
use Rattle.keyfield.proofs.Chosen.{chosen_skip, chosen_next}
use Rattle.asked.specs.Asked.{is_empty, named}
use Rattle.faults.specs.Faults.{no_flaws, has_kind}
use Rattle.faults.specs.declared.Flaws.{Flaws}
use Rattle.lookover.specs.Looking.{is_valid, is_just, names_only, is_one_of, lists, own_flaws, gossip_flaws, is_own, flaws_of, valid_in, valid_behind}
use Rattle.lookover.specs.declared.Side.{Side}
use Rattle.lookover.specs.declared.Side.TheVariants.{Outer, Payload}

-- a kind that a field has
pub data Kinded (w : Flaws) : ℕ → Type 0 where
  more_valid_fault : w.more_valid ≡ true → Kinded w 2
  wrong_address_fault : w.wrong_address ≡ true → Kinded w 3
  unknown_attribute_fault : w.unknown_attribute ≡ true → Kinded w 4
  key_data_fault : w.key_data ≡ true → Kinded w 5
  gossip_outside_fault : w.gossip_outside ≡ true → Kinded w 6
  gossip_unlisted_fault : w.gossip_unlisted ≡ true → Kinded w 7
  gossip_preference_fault : w.gossip_preference ≡ true → Kinded w 8

pub kinded : (w : Flaws) (k : ℕ) → has_kind w k ≡ true → Kinded w k
unfolding has_kind
kinded w k h =
    by_test (eqb k 2) (λ e. rw (eqb-true k 2 e) (more_valid_fault (rw e at h)))
    (λ n₂. by_test (eqb k 3) (λ e. rw (eqb-true k 3 e) (wrong_address_fault (rw (n₂, e) at h)))
    (λ n₃. by_test (eqb k 4) (λ e. rw (eqb-true k 4 e) (unknown_attribute_fault (rw (n₂, n₃, e) at h)))
    (λ n₄. by_test (eqb k 5) (λ e. rw (eqb-true k 5 e) (key_data_fault (rw (n₂, n₃, n₄, e) at h)))
    (λ n₅. by_test (eqb k 6) (λ e. rw (eqb-true k 6 e) (gossip_outside_fault (rw (n₂, n₃, n₄, n₅, e) at h)))
    (λ n₆. by_test (eqb k 7) (λ e. rw (eqb-true k 7 e) (gossip_unlisted_fault (rw (n₂, n₃, n₄, n₅, n₆, e) at h)))
    (λ n₇. by_test (eqb k 8) (λ e. rw (eqb-true k 8 e) (gossip_preference_fault (rw (n₂, n₃, n₄, n₅, n₆, n₇, e) at h)))
    (λ n₈. absurd (false≢true (rw (n₂, n₃, n₄, n₅, n₆, n₇, n₈) at h)))))))))

-- names that are the same but for their case are as long as each other, and the two names are not
name_long : (s t : List ℕ) → same_name s t ≡ true → length s ≡ length t
unfolding same_name
name_long s t e = sym (length_lowered s) ∙ ap length (same_true (lowered s) (lowered t) e) ∙ length_lowered t

pub not_both : (name : List ℕ) → is_kind AutocryptGossip name ≡ true → is_kind Autocrypt name ≡ false
unfolding is_kind
not_both name g =
    by_test (same_name name names.autocrypt)
    (λ e. absurd (omega (arith, name_long name names.autocrypt e, name_long name names.gossip g)))
    (λ e. e)

module _ (sender : List ℕ) (recipients : List (List ℕ)) (seen : Bool) (f : FieldText) where
  pub flaws_own : is_kind Autocrypt f.name ≡ true → flaws_of Outer sender recipients seen f ≡ own_flaws sender seen f.value
  unfolding flaws_of is_own
  flaws_own e = rw e

  pub flaws_gossip : (side : Side) → is_kind AutocryptGossip f.name ≡ true → flaws_of side sender recipients seen f ≡ gossip_flaws side recipients f.value
  unfolding flaws_of is_own
  flaws_gossip Outer e = rw (not_both f.name e, e)
  flaws_gossip Payload e = rw e

  pub flaws_none : (side : Side) → is_own side f ≡ false → is_kind AutocryptGossip f.name ≡ false → flaws_of side sender recipients seen f ≡ no_flaws
  unfolding flaws_of
  flaws_none side o g = rw (o, g)

-- the valid fields among those of an outer block
abbrev pub valid : List ℕ → List FieldText → List Field
valid sender fs = valid_fields key_limit sender (values_of Autocrypt fs)

-- a field in front of others: a valid one, or any other
pub data Turn (sender : List ℕ) (f : FieldText) : Type 0 where
  valid_one : (x : Field) → is_kind Autocrypt f.name ≡ true → valid_for key_limit sender f.value ≡ Some x → valid_in Outer sender f ≡ true
      → ((fs : List FieldText) → valid sender (f ∷ fs) ≡ x ∷ valid sender fs) → Turn sender f
  other_one : valid_in Outer sender f ≡ false → ((fs : List FieldText) → valid sender (f ∷ fs) ≡ valid sender fs) → Turn sender f

module _ (sender : List ℕ) where
  pub turn : (f : FieldText) → Turn sender f
  unfolding valid_in is_own is_valid is_some valid_fields
  turn f =
      by_test (is_kind Autocrypt f.name)
      (λ k. by_option (valid_for key_limit sender f.value)
      (λ e. other_one (rw (k, e)) (λ fs. rw (values_first Autocrypt f fs k) (chosen_skip (valid_for key_limit sender) f.value (values_of Autocrypt fs) e)))
      (λ x e. valid_one x k e (rw (k, e)) (λ fs. rw (values_first Autocrypt f fs k) (chosen_next (valid_for key_limit sender) f.value (values_of Autocrypt fs) x e))))
      (λ k. other_one (rw k) (λ fs. rw (values_other Autocrypt f fs k)))

  pub behind_valid : (fs : List FieldText) → valid_behind Outer sender fs ≡ not (is_empty (valid sender fs))
  unfolding valid_behind valid_fields values_of chosen is_empty
  behind_valid [] = refl
  behind_valid (f ∷ fs) = go (turn f) (behind_valid fs)
    where
      go : Turn sender f → valid_behind Outer sender fs ≡ not (is_empty (valid sender fs)) → valid_behind Outer sender (f ∷ fs) ≡ not (is_empty (valid sender (f ∷ fs)))
      go (valid_one x k e i q) h = rw (i, q fs)
      go (other_one i q) h = rw (i, q fs) h

  empty_is : (l : List Field) → is_empty l ≡ true → l ≡ []
  unfolding is_empty
  empty_is [] e = refl
  empty_is (x ∷ l) e = absurd (false≢true e)

  module _ (fs : List FieldText) where
    pub behind_none : valid_behind Outer sender fs ≡ false → valid sender fs ≡ []
    behind_none e = empty_is (valid sender fs) (not-false (is_empty (valid sender fs)) (sym (behind_valid fs) ∙ e))

    pub none_behind : valid sender fs ≡ [] → valid_behind Outer sender fs ≡ false
    unfolding is_empty
    none_behind e = behind_valid fs ∙ rw e

    pub behind_some : valid_behind Outer sender fs ≡ true → valid sender fs ≡ [] → ⊥
    behind_some e q = false≢true (sym (none_behind q) ∙ e)

    pub some_behind : (valid sender fs ≡ [] → ⊥) → valid_behind Outer sender fs ≡ true
    some_behind n = by_test (valid_behind Outer sender fs) (λ e. e) (λ e. absurd (n (behind_none e)))

-- whom a value names
module _ (v : List ℕ) where
  module _ (sender : List ℕ) where
    pub names_it : named v ≡ Some sender → names_only sender v ≡ true
    unfolding names_only is_just
    names_it e = rw e (same_refl sender)

    pub names_not : (named v ≡ Some sender → ⊥) → names_only sender v ≡ false
    unfolding names_only is_just
    names_not n =
        by_option (named v) (λ e. rw e)
        (λ a e. rw e (by_test (same_octets a sender) (λ t. absurd (n (e ∙ ap Some (same_true a sender t)))) (λ t. t)))

  module _ (recipients : List (List ℕ)) where
    pub lists_it : (a : List ℕ) → named v ≡ Some a → among a recipients ≡ true → lists recipients v ≡ true
    unfolding lists is_one_of
    lists_it a e h = rw e h

    pub lists_not : ((a : List ℕ) → named v ≡ Some a → among a recipients ≡ true → ⊥) → lists recipients v ≡ false
    unfolding lists is_one_of
    lists_not n =
        by_option (named v) (λ e. rw e) (λ a e. rw e (by_test (among a recipients) (λ t. absurd (n a e t)) (λ t. t)))
