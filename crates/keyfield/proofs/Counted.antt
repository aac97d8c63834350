-- The field that counts (F12, F13), as callers ask for it.
--     naming_sender, naming_other, naming_spoiled    a field that names the sender, one that names another, and one that is spoiled
--     valid_is                                       what is valid is a field that names the sender
--     counted_none, counted_one, counted_two         what counts, by how many are valid
--     counted_is                                     what counts is the one valid field
--     counted_value                                  and is the field of a value
-- Assumes nothing.
use Prim.Native.Nat.{ℕ}
use mathlib.Core.Path.{◌≡◌, refl, sym, ap, ◌∙◌}
use mathlib.Core.Bool.{false}
use mathlib.Core.List.{List, [], ◌∷◌}
use Rattle.std.specs.Prelude.{Option, Some, None}
use native.Mathlib.Omega.{arith}
use Rattle.octets.specs.Octets.{same_octets}
use Rattle.octets.specs.Options.{only_one}
use Rattle.octets.proofs.Options.{only_one_lem}
use Rattle.octets.proofs.Comparing.{same_true, same_refl}
use Rattle.octets.proofs.Tests.{by_test}
use Rattle.keyfield.specs.Field.{Field, field_of, naming, valid_for, valid_fields, counted}
use Rattle.keyfield.proofs.Chosen.{chosen_value}

module _ (limit : ℕ) (sender s : List ℕ) where
  pub naming_sender : (f : Field) → field_of limit s ≡ Some f → f.address ≡ sender → valid_for limit sender s ≡ Some f
  unfolding valid_for naming
  naming_sender f e a = rw (e, a, same_refl sender)

  pub naming_other : (f : Field) → field_of limit s ≡ Some f → same_octets f.address sender ≡ false → valid_for limit sender s ≡ None
  unfolding valid_for naming
  naming_other f e a = rw (e, a)

  pub naming_spoiled : field_of limit s ≡ None → valid_for limit sender s ≡ None
  unfolding valid_for naming
  naming_spoiled e = rw e

  -- what is valid is a field that names the sender
  pub valid_is : (f : Field) → valid_for limit sender s ≡ Some f → (field_of limit s ≡ Some f) × (f.address ≡ sender)
  unfolding valid_for naming
  valid_is f e = go (field_of limit s) refl
    where
      go : (o : Option Field) → field_of limit s ≡ o → (field_of limit s ≡ Some f) × (f.address ≡ sender)
      go None q = let k : None ≡ Some f = rw q at e in let z : ◌≡◌ {A = ℕ} 0 1 = cc in absurd (omega arith)
      go (Some h) q =
          by_test (same_octets h.address sender)
          (λ t. let k : Some h ≡ Some f = rw (q, t) at e in let g : h ≡ f = cc in (q ∙ k, ap (λ (x : Field). x.address) (sym g) ∙ same_true h.address sender t))
          (λ t. let k : None ≡ Some f = rw (q, t) at e in let z : ◌≡◌ {A = ℕ} 0 1 = cc in absurd (omega arith))

-- what counts
module _ (limit : ℕ) (sender : List ℕ) (values : List (List ℕ)) where
  pub counted_none : valid_fields limit sender values ≡ [] → counted limit values sender ≡ None
  unfolding counted only_one
  counted_none e = rw e

  pub counted_one : (f : Field) → valid_fields limit sender values ≡ f ∷ [] → counted limit values sender ≡ Some f
  unfolding counted only_one
  counted_one f e = rw e

  pub counted_two : (f g : Field) (rest : List Field) → valid_fields limit sender values ≡ f ∷ g ∷ rest → counted limit values sender ≡ None
  unfolding counted only_one
  counted_two f g rest e = rw e

  -- what counts is the one that is valid
  pub counted_is : (f : Field) → counted limit values sender ≡ Some f → valid_fields limit sender values ≡ f ∷ []
  unfolding counted
  counted_is f e = only_one_lem (valid_fields limit sender values) f e

  pub counted_value : (f : Field) → counted limit values sender ≡ Some f → (v : List ℕ) × (field_of limit v ≡ Some f)
  unfolding valid_fields
  counted_value f e =
      let h = chosen_value (valid_for limit sender) values f [] (counted_is f e) in
      (h.0, (valid_is limit sender h.0 f h.1).0)
