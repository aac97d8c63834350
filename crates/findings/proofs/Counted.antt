-- C24: without a fault of the kinds 1 and 2 one Autocrypt field counts.
--     First, first_valid      where fields have a valid one: at which place
--     one_or_more             of some valid fields the only one counts, or one stands behind another
--     counts                  C24
-- Assumes nothing.
use Prim.Native.Nat.{ℕ, suc, ◌-◌}
use mathlib.Core.Path.{◌≡◌, refl, sym, ◌∙◌}
use mathlib.Core.Bool.{true, false, false≢true}
use mathlib.Core.List.{List, [], ◌∷◌}
use native.Mathlib.Omega.{arith}
use lib.ListN.{take}
use Rattle.octets.specs.Options.{is_some, only_one}
use Rattle.octets.proofs.Tests.{by_test}
use Rattle.header.specs.Header.{FieldText}
use Rattle.fields.specs.Fields.{values_of}
use Rattle.fields.specs.declared.Kind.TheVariants.{Autocrypt}
use Rattle.slots.specs.Slot.{key_limit}
use Rattle.keyfield.specs.Field.{Field, valid_for, chosen, valid_fields, counted}
use Rattle.keys.specs.Keys.{counted_in}
use Rattle.faults.specs.Faults.{Fault, no_valid, more_valid}
use Rattle.faults.specs.Found.{is_in}
use Rattle.lookover.specs.Looking.{faults_of, valid_behind}
use Rattle.lookover.specs.declared.Side.TheVariants.{Outer}
use Rattle.findings.specs.Wrong.{field_at, fault, Stands, Wrong, no_valid_fault, more_valid_fault}
use Rattle.findings.specs.Findings.{Counts}
use Rattle.findings.proofs.Flawed.{valid, Turn, valid_one, other_one, turn, behind_none, behind_some}
use Rattle.findings.proofs.Findings.{each_fault}

pub record First (sender : List ℕ) (fs : List FieldText) : Type 0 where
  pub front : ℕ
  pub field : FieldText
  pub stands : Stands fs (suc front) Autocrypt field
  pub validly : is_some (valid_for key_limit sender field.value) ≡ true

module _ (sender : List ℕ) where
  stands_later : (g : FieldText) (fs : List FieldText) (n : ℕ) (f : FieldText) → Stands fs (suc n) Autocrypt f → Stands (g ∷ fs) (suc (suc n)) Autocrypt f
  unfolding field_at
  stands_later g fs n f s = record { there = s.there; called = s.called }

  first_valid : (fs : List FieldText) → (valid sender fs ≡ [] → ⊥) → First sender fs
  unfolding field_at is_some valid_fields chosen values_of
  first_valid [] n = absurd (n refl)
  first_valid (f ∷ fs) n = go (turn sender f) (first_valid fs)
    where
      go : Turn sender f → ((valid sender fs ≡ [] → ⊥) → First sender fs) → First sender (f ∷ fs)
      go (valid_one x k e i q) later = record { front = 0; field = f; stands = record { there = refl; called = k }; validly = rw e }
      go (other_one i q) later =
          let h : First sender fs = later (λ z. n (q fs ∙ z)) in
          record { front = suc h.front; field = h.field; stands = stands_later f fs h.front h.field h.stands; validly = h.validly }

  -- no valid field stands behind another
  abbrev NoMore : List FieldText → Type 0
  NoMore fs =
      (n : ℕ) (f : FieldText) → Stands fs (suc n) Autocrypt f → is_some (valid_for key_limit sender f.value) ≡ true → (valid sender (take n fs) ≡ [] → ⊥) → ⊥

  one_or_more : (fs : List FieldText) → (valid sender fs ≡ [] → ⊥) → NoMore fs → is_some (only_one (valid sender fs)) ≡ true
  unfolding is_some only_one valid_fields chosen values_of
  one_or_more [] n never = absurd (n refl)
  one_or_more (f ∷ fs) n never = go (turn sender f) (one_or_more fs)
    where
      not_none : (x : Field) (xs l : List Field) → l ≡ x ∷ xs → l ≡ [] → ⊥
      not_none x xs l e q = let z : ◌≡◌ {A = ℕ} 0 1 = cc in omega arith

      go : Turn sender f → ((valid sender fs ≡ [] → ⊥) → NoMore fs → is_some (only_one (valid sender fs)) ≡ true) → is_some (only_one (valid sender (f ∷ fs))) ≡ true
      go (valid_one x k e i q) later =
          by_test (valid_behind Outer sender fs)
          (λ b. let h : First sender fs = first_valid fs (behind_some sender fs b) in
          absurd
          (never (suc h.front) h.field (stands_later f fs h.front h.field h.stands) h.validly
          (not_none x (valid sender (take h.front fs)) (valid sender (f ∷ take h.front fs)) (q (take h.front fs)))))
          (λ b. rw (q fs, behind_none sender fs b))
      go (other_one i q) later =
          rw (q fs)
          (later (λ z. n (q fs ∙ z))
          (λ m g s v l. never (suc m) g (stands_later f fs m g s) v (λ z. l (sym (q (take m fs)) ∙ z))))

pub counts : Counts
unfolding counted_in counted
counts sender recipients outer payload first more =
    one_or_more sender outer (λ e. not_found (fault 0 0 no_valid) first (no_valid_fault e))
    (λ n f s v l. not_found (fault 0 (suc n) more_valid) (more (suc n)) (more_valid_fault (suc n) f s v (let m : suc n - 1 ≡ n = omega arith in rw m l)))
  where
    not_found : (x : Fault) → is_in x (faults_of sender recipients outer payload) ≡ false → Wrong sender recipients outer payload x → ⊥
    not_found x e w = false≢true (sym e ∙ (each_fault sender recipients outer payload x).1 w)
