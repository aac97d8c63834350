-- C22: what is found is what is wrong.
--     not_nought                              no field has place 0
--     own_wrong, gossip_wrong, field_wrong    a kind that a field has is a fault
--     found_wrong                             what is found is wrong
--     stands_found                            a fault of a field is found by the kind that it has
--     wrong_found                             what is wrong is found
--     each_fault, each_listed                 both, for some fields and for a call
--     none_exactly                            nothing is found exactly where nothing is wrong
-- Assumes nothing.
use Prim.Native.Nat.{ℕ, zero, suc, ◌-◌}
use mathlib.Core.Path.{◌≡◌, refl, sym, ◌∙◌}
use mathlib.Core.Bool.{Bool, true, false, ◌&&◌, ◌||◌, or-false, false≢true}
use mathlib.Core.List.{List, [], ◌∷◌}
use Rattle.std.specs.Prelude.{Some}
use native.Mathlib.Omega.{arith}
use borrow.Author.Tests.{eqb-true, eq-eqb, not-true}
use lib.Dec.{eqb}
use lib.ListN.{take}
use Rattle.octets.specs.Options.{or_else}
use Rattle.octets.proofs.Tests.{by_test, and_left, and_right}
use Rattle.header.specs.Header.{FieldText}
use Rattle.fields.specs.Fields.{is_kind, fields_in}
use Rattle.fields.specs.declared.Kind.TheVariants.{Autocrypt, AutocryptGossip}
use Rattle.outer.specs.Outer.{recipients_in}
use Rattle.asked.specs.Asked.{occurs, has_key_data}
use Rattle.asked.specs.declared.Called.TheVariants.{Unknown}
use Rattle.faults.specs.Faults.{Fault, no_valid, no_flaws, has_kind}
use Rattle.faults.specs.Found.{same_fault, is_in}
use Rattle.lookover.specs.Looking.{is_outer, side_number, is_valid, names_only, lists, own_flaws, gossip_flaws, is_own, flaws_of, valid_behind, faults_in, missing, faults_of}
use Rattle.lookover.specs.declared.Side.{Side}
use Rattle.lookover.specs.declared.Side.TheVariants.{Outer, Payload}
use Rattle.lint.specs.Linting.{mail_faults}
use Rattle.findings.specs.Wrong.{field_at, fields_on, fault, Stands, LookedAt, own, gossip, Wrong}
use Rattle.findings.specs.Wrong as wrong
use Rattle.findings.specs.Findings.{EachFault, EachListed, NoneExactly}
use Rattle.findings.proofs.Having.{in_either, in_first, in_second, Has, from_has, has_from}
use Rattle.findings.proofs.Flawed as flawed
use Rattle.findings.proofs.Flawed.{Kinded, kinded, flaws_own, flaws_gossip, flaws_none, behind_none, none_behind, behind_some, some_behind, names_it, names_not, lists_it, lists_not}

-- places count from 1
pub not_nought : (fs : List FieldText) (f : FieldText) → field_at fs 0 ≡ Some f → ⊥
unfolding field_at
not_nought [] f q = let z : ◌≡◌ {A = ℕ} 0 1 = cc in omega arith
not_nought (g ∷ fs) f q = let z : ◌≡◌ {A = ℕ} 0 1 = cc in omega arith

module _ (sender : List ℕ) (recipients : List (List ℕ)) (outer payload : List FieldText) where
  abbrev IsWrong : ℕ → ℕ → ℕ → Type 0
  IsWrong block place kind = Wrong sender recipients outer payload (fault block place kind)

  -- whether a valid Autocrypt field stands in front of a place of the outer block
  abbrev seen_at : ℕ → Bool
  seen_at place = valid_behind Outer sender (take (place - 1) outer)

  own_wrong : (place : ℕ) (f : FieldText) → Stands outer place Autocrypt f → (k : ℕ) → Kinded (own_flaws sender (seen_at place) f.value) k → IsWrong 0 place k
  unfolding own_flaws is_valid
  own_wrong place f s k (flawed.more_valid_fault h) =
      wrong.more_valid_fault place f s (and_right (seen_at place) _ h)
      (behind_some sender (take (place - 1) outer) (and_left (seen_at place) (is_valid sender f.value) h))
  own_wrong place f s k (flawed.wrong_address_fault h) =
      wrong.wrong_address_fault place f s
      (λ q. false≢true (sym (not-true (names_only sender f.value) h) ∙ names_it f.value sender q))
  own_wrong place f s k (flawed.unknown_attribute_fault h) = wrong.unknown_attribute_fault Outer place f (own place f s) h
  own_wrong place f s k (flawed.key_data_fault h) = wrong.key_data_fault Outer place f (own place f s) (not-true (has_key_data f.value) h)
  own_wrong place f s k (flawed.gossip_outside_fault h) = absurd (false≢true h)
  own_wrong place f s k (flawed.gossip_unlisted_fault h) = absurd (false≢true h)
  own_wrong place f s k (flawed.gossip_preference_fault h) = absurd (false≢true h)

  outside_wrong : (side : Side) (place : ℕ) (f : FieldText) → Stands (fields_on side outer payload) place AutocryptGossip f → is_outer side ≡ true
      → IsWrong (side_number side) place 6
  outside_wrong Outer place f s h = wrong.gossip_outside_fault place f s
  outside_wrong Payload place f s h = absurd (false≢true h)

  gossip_wrong : (side : Side) (place : ℕ) (f : FieldText) → Stands (fields_on side outer payload) place AutocryptGossip f
      → (k : ℕ) → Kinded (gossip_flaws side recipients f.value) k → IsWrong (side_number side) place k
  unfolding gossip_flaws
  gossip_wrong side place f s k (flawed.more_valid_fault h) = absurd (false≢true h)
  gossip_wrong side place f s k (flawed.wrong_address_fault h) = absurd (false≢true h)
  gossip_wrong side place f s k (flawed.unknown_attribute_fault h) = wrong.unknown_attribute_fault side place f (gossip side place f s) h
  gossip_wrong side place f s k (flawed.key_data_fault h) = wrong.key_data_fault side place f (gossip side place f s) (not-true (has_key_data f.value) h)
  gossip_wrong side place f s k (flawed.gossip_outside_fault h) = outside_wrong side place f s h
  gossip_wrong side place f s k (flawed.gossip_unlisted_fault h) =
      wrong.gossip_unlisted_fault side place f s
      (λ a q m. false≢true (sym (not-true (lists recipients f.value) h) ∙ lists_it f.value recipients a q m))
  gossip_wrong side place f s k (flawed.gossip_preference_fault h) = wrong.gossip_preference_fault side place f s h

  none_kinded : (k : ℕ) → Kinded no_flaws k → ⊥
  unfolding no_flaws
  none_kinded k (flawed.more_valid_fault h) = false≢true h
  none_kinded k (flawed.wrong_address_fault h) = false≢true h
  none_kinded k (flawed.unknown_attribute_fault h) = false≢true h
  none_kinded k (flawed.key_data_fault h) = false≢true h
  none_kinded k (flawed.gossip_outside_fault h) = false≢true h
  none_kinded k (flawed.gossip_unlisted_fault h) = false≢true h
  none_kinded k (flawed.gossip_preference_fault h) = false≢true h

  -- a field that is not an Autocrypt field of the outer block
  other_wrong : (side : Side) (seen : Bool) (place : ℕ) (f : FieldText) → field_at (fields_on side outer payload) place ≡ Some f → is_own side f ≡ false
      → (k : ℕ) → has_kind (flaws_of side sender recipients seen f) k ≡ true → IsWrong (side_number side) place k
  other_wrong side seen place f t o k h =
      by_test (is_kind AutocryptGossip f.name)
      (λ e. gossip_wrong side place f (record { there = t; called = e }) k (kinded _ k (rw (flaws_gossip sender recipients seen f side e) at h)))
      (λ e. absurd (none_kinded k (kinded no_flaws k (rw (flaws_none sender recipients seen f side o e) at h))))

  field_wrong : (side : Side) (place : ℕ) (f : FieldText) → field_at (fields_on side outer payload) place ≡ Some f
      → (k : ℕ) → has_kind (flaws_of side sender recipients (valid_behind side sender (take (place - 1) (fields_on side outer payload))) f) k ≡ true
      → IsWrong (side_number side) place k
  unfolding is_own
  field_wrong Outer place f t k h =
      by_test (is_kind Autocrypt f.name)
      (λ e. own_wrong place f (record { there = t; called = e }) k (kinded _ k (rw (flaws_own sender recipients (seen_at place) f e) at h)))
      (λ e. other_wrong Outer (seen_at place) place f t e k h)
  field_wrong Payload place f t k h = other_wrong Payload (valid_behind Payload sender (take (place - 1) payload)) place f t refl k h

  -- what is found
  has_wrong : (side : Side) (block place kind : ℕ) → Has side sender recipients false 1 (fields_on side outer payload) (fault block place kind) → IsWrong block place kind
  has_wrong side block place kind h =
      let p : suc h.front ≡ place = omega (arith, h.placed) in
      let n : h.front ≡ place - 1 = omega (arith, h.placed) in
      rw h.block (field_wrong side place h.field (rw p at h.there) kind (rw n at h.kind))

  missing_wrong : (block place kind : ℕ) → is_in (fault block place kind) (missing (valid_behind Outer sender outer)) ≡ true → IsWrong block place kind
  unfolding missing is_in same_fault
  missing_wrong block place kind e =
      by_test (valid_behind Outer sender outer)
      (λ v. absurd (false≢true (rw v at e)))
      (λ v.
      let q : (eqb block 0 && eqb place 0 && eqb kind 1 || false) ≡ true = rw v at e in
      let h : (eqb block 0 && eqb place 0 && eqb kind 1) ≡ true = sym (or-false (eqb block 0 && eqb place 0 && eqb kind 1)) ∙ q in
      let b : (eqb block 0 && eqb place 0) ≡ true = and_left _ (eqb kind 1) h in
      rw (
        eqb-true block 0 (and_left _ (eqb place 0) b),
        eqb-true place 0 (and_right (eqb block 0) _ b),
        eqb-true kind 1 (and_right (eqb block 0 && eqb place 0) _ h),
      )
      (wrong.no_valid_fault (behind_none sender outer v)))

  found_wrong : (block place kind : ℕ) → is_in (fault block place kind) (faults_of sender recipients outer payload) ≡ true → IsWrong block place kind
  unfolding faults_of faults_in
  found_wrong block place kind e =
      in_either (fault block place kind) (missing (valid_behind Outer sender outer)) _ e
      (missing_wrong block place kind)
      (λ h. in_either (fault block place kind) (faults_in Outer sender recipients outer) _ h
      (λ o. has_wrong Outer block place kind (from_has Outer sender recipients (fault block place kind) false 1 outer o))
      (λ o. has_wrong Payload block place kind (from_has Payload sender recipients (fault block place kind) false 1 payload o)))

  -- what is wrong
  in_block : (side : Side) (x : Fault) → is_in x (faults_in side sender recipients (fields_on side outer payload)) ≡ true → is_in x (faults_of sender recipients outer payload) ≡ true
  unfolding faults_of
  in_block Outer x h = in_second x (missing (valid_behind Outer sender outer)) _ (in_first x (faults_in Outer sender recipients outer) _ h)
  in_block Payload x h =
      in_second x (missing (valid_behind Outer sender outer)) _ (in_second x (faults_in Outer sender recipients outer) (faults_in Payload sender recipients payload) h)

  stands_found : (side : Side) (place : ℕ) (f : FieldText) → field_at (fields_on side outer payload) place ≡ Some f → (k : ℕ)
      → has_kind (flaws_of side sender recipients (valid_behind side sender (take (place - 1) (fields_on side outer payload))) f) k ≡ true
      → is_in (fault (side_number side) place k) (faults_of sender recipients outer payload) ≡ true
  unfolding faults_in
  stands_found side zero f t k h = absurd (not_nought (fields_on side outer payload) f t)
  stands_found side (suc n) f t k h =
      let m : suc n - 1 ≡ n = omega arith in
      in_block side (fault (side_number side) (suc n) k)
      (has_from side sender recipients (fault (side_number side) (suc n) k) false 1 (fields_on side outer payload) n f t refl (omega arith) (rw m at h))

  own_found : (place : ℕ) (f : FieldText) → Stands outer place Autocrypt f → (k : ℕ) → has_kind (own_flaws sender (seen_at place) f.value) k ≡ true
      → is_in (fault 0 place k) (faults_of sender recipients outer payload) ≡ true
  own_found place f s k h = stands_found Outer place f s.there k (rw (flaws_own sender recipients (seen_at place) f s.called) h)

  gossip_found : (side : Side) (place : ℕ) (f : FieldText) → Stands (fields_on side outer payload) place AutocryptGossip f
      → (k : ℕ) → has_kind (gossip_flaws side recipients f.value) k ≡ true
      → is_in (fault (side_number side) place k) (faults_of sender recipients outer payload) ≡ true
  gossip_found side place f s k h =
      stands_found side place f s.there k
      (rw (flaws_gossip sender recipients (valid_behind side sender (take (place - 1) (fields_on side outer payload))) f side s.called) h)

  unknown_found : (side : Side) (place : ℕ) (f : FieldText) → LookedAt outer payload side place f → occurs Unknown f.value ≡ true
      → is_in (fault (side_number side) place 4) (faults_of sender recipients outer payload) ≡ true
  unfolding own_flaws gossip_flaws has_kind
  unknown_found side place f (own p g s) h = own_found place f s 4 h
  unknown_found side place f (gossip b p g s) h = gossip_found side place f s 4 h

  data_found : (side : Side) (place : ℕ) (f : FieldText) → LookedAt outer payload side place f → has_key_data f.value ≡ false
      → is_in (fault (side_number side) place 5) (faults_of sender recipients outer payload) ≡ true
  unfolding own_flaws gossip_flaws has_kind
  data_found side place f (own p g s) h = own_found place f s 5 (rw h)
  data_found side place f (gossip b p g s) h = gossip_found side place f s 5 (rw h)

  missing_found : valid_behind Outer sender outer ≡ false → is_in (fault 0 0 no_valid) (faults_of sender recipients outer payload) ≡ true
  unfolding faults_of missing is_in same_fault
  missing_found e = in_first (fault 0 0 no_valid) (missing (valid_behind Outer sender outer)) _ (rw e)

  wrong_found : (x : Fault) → Wrong sender recipients outer payload x → is_in x (faults_of sender recipients outer payload) ≡ true
  unfolding own_flaws gossip_flaws has_kind is_valid
  wrong_found x (wrong.no_valid_fault e) = missing_found (none_behind sender outer e)
  wrong_found x (wrong.more_valid_fault place f s v n) = own_found place f s 2 (rw (some_behind sender (take (place - 1) outer) n, v))
  wrong_found x (wrong.wrong_address_fault place f s n) = own_found place f s 3 (rw (names_not f.value sender n))
  wrong_found x (wrong.unknown_attribute_fault side place f l h) = unknown_found side place f l h
  wrong_found x (wrong.key_data_fault side place f l h) = data_found side place f l h
  wrong_found x (wrong.gossip_outside_fault place f s) = gossip_found Outer place f s 6 refl
  wrong_found x (wrong.gossip_unlisted_fault side place f s n) = gossip_found side place f s 7 (rw (lists_not f.value recipients n))
  wrong_found x (wrong.gossip_preference_fault side place f s h) = gossip_found side place f s 8 h

pub each_fault : EachFault
each_fault sender recipients outer payload x =
    (found_wrong sender recipients outer payload x.block x.place x.kind, wrong_found sender recipients outer payload x)

pub each_listed : EachListed
unfolding mail_faults or_else
each_listed outer payload sender x e = rw e (each_fault sender (recipients_in (fields_in outer)) (fields_in outer) (fields_in payload) x)

none_in : (l : List Fault) → ((x : Fault) → is_in x l ≡ true → ⊥) → l ≡ []
unfolding is_in same_fault
none_in [] n = refl
none_in (f ∷ l) n = absurd (n f (rw (eq-eqb f.block f.block refl, eq-eqb f.place f.place refl, eq-eqb f.kind f.kind refl)))

pub none_exactly : NoneExactly
unfolding is_in
none_exactly sender recipients outer payload = (
  λ e x w.
      let h : is_in x (faults_of sender recipients outer payload) ≡ true = wrong_found sender recipients outer payload x w in
      false≢true (rw e at h),
  λ n. none_in (faults_of sender recipients outer payload) (λ x h. n x (found_wrong sender recipients outer payload x.block x.place x.kind h)),
)
