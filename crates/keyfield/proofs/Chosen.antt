-- What values come to, in order, those left out that come to nothing.
--     chosen_skip, chosen_next     a value in front of others
--     chosen_append                values behind values
--     chosen_value                 the first of it is what one of the values comes to
-- Assumes nothing.
use Prim.Native.Nat.{ℕ}
use mathlib.Core.Path.{◌≡◌, refl, sym, ap, ◌∙◌}
use mathlib.Core.List.{List, [], ◌∷◌, ◌++◌}
use Rattle.std.specs.Prelude.{Option, Some, None}
use native.Mathlib.Omega.{arith}
use Rattle.keyfield.specs.Field.{chosen}

module _ {A : Type 0} (f : List ℕ → Option A) where
  module _ (v : List ℕ) (rest : List (List ℕ)) where
    pub chosen_skip : f v ≡ None → chosen f (v ∷ rest) ≡ chosen f rest
    unfolding chosen
    chosen_skip e = rw (chosen, e)

    pub chosen_next : (x : A) → f v ≡ Some x → chosen f (v ∷ rest) ≡ x ∷ chosen f rest
    unfolding chosen
    chosen_next x e = rw (chosen, e)

  pub chosen_append : (s t : List (List ℕ)) → chosen f (s ++ t) ≡ chosen f s ++ chosen f t
  unfolding chosen
  chosen_append [] t = refl
  chosen_append (v ∷ s) t = go (f v) refl (chosen_append s t)
    where
      go : (o : Option A) → f v ≡ o → chosen f (s ++ t) ≡ chosen f s ++ chosen f t → chosen f (v ∷ (s ++ t)) ≡ chosen f (v ∷ s) ++ chosen f t
      go None e h = rw (chosen_skip v (s ++ t) e, chosen_skip v s e) h
      go (Some x) e h = rw (chosen_next v (s ++ t) x e, chosen_next v s x e, h)

  pub chosen_value : (values : List (List ℕ)) (x : A) (more : List A) → chosen f values ≡ x ∷ more → (v : List ℕ) × (f v ≡ Some x)
  unfolding chosen
  chosen_value [] x more e = let z : ◌≡◌ {A = ℕ} 0 1 = cc in absurd (omega arith)
  chosen_value (v ∷ rest) x more e = go (f v) refl (λ q. chosen_value rest x more q)
    where
      go : (o : Option A) → f v ≡ o → (chosen f rest ≡ x ∷ more → (w : List ℕ) × (f w ≡ Some x)) → (w : List ℕ) × (f w ≡ Some x)
      go None q later = later (sym (chosen_skip v rest q) ∙ e)
      go (Some y) q later = let k : y ∷ chosen f rest ≡ x ∷ more = sym (chosen_next v rest y q) ∙ e in let h : y ≡ x = cc in (v, q ∙ ap Some h)
