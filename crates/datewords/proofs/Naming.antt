-- Names of three letters, one after the other, and what `which` answers.
--     place_counts    the place of a name counts the names in front of it
--     which_..        an answer of `position`, and what the definition says
--     place_below     the place that is found is one of the table
-- Assumes nothing.
use Prim.Native.Nat.{ℕ, suc, ◌+◌, ◌*◌, ◌/◌, ◌<◌}
use mathlib.Core.Path.{◌≡◌, refl, ap, ◌∙◌}
use mathlib.Core.Bool.{Bool, true, false, cond}
use mathlib.Core.List.{List, [], ◌∷◌}
use Rattle.std.proofs.lemmas.Option.{none-some}
use Rattle.std.specs.Prelude.{Option, Some, None, option_map, nat_lt}
use Rattle.std.specs.List.{position, position_or_len}
use Rattle.std.specs.Simd.{first_chunks}
use native.Mathlib.Nat.{add-div_left, zero-add}
use native.Mathlib.Numerals.{add-one, one-add}
use native.Mathlib.Omega.{arith}
use Prim.Native.Nat.compare.{suc-suc}
use borrow.Author.Tests.{lt-ltb}
use lib.ListN.{length}
use Rattle.octets.specs.Octets.{same_name}
use Rattle.datewords.specs.Words.{place_from, place_in, here_or}

-- the names, each as a list of its own
abbrev pub cut : List ℕ → List (List ℕ)
cut names = first_chunks 3 (length names / 3) names

module _ {X : Type 0} (p : X → Bool) (x : X) (xs : List X) where
  first_here : p x ≡ true → position p (x ∷ xs) ≡ Some 0
  first_here e = rw (e, lt-ltb 0 (suc (length xs)) (omega arith))

  first_later : p x ≡ false → position p (x ∷ xs) ≡ option_map suc (position p xs)
  first_later e = rw (e, one-add, suc-suc) (go (nat_lt (position_or_len p xs) (length xs)))
    where
      go : (b : Bool) → cond b (Some (suc (position_or_len p xs))) None ≡ option_map suc (cond b (Some (position_or_len p xs)) None)
      go true = refl
      go false = refl

module _ (t : List ℕ) where
  later : (k : ℕ) (o : Option ℕ) → option_map (λ i. k + 1 + i) o ≡ option_map (λ i. k + i) (option_map suc o)
  later k None = refl
  later k (Some i) = ap Some (omega arith)

  -- the place of a name counts the names in front of it
  place_counts : (k : ℕ) (names : List ℕ) → place_from k t names ≡ option_map (λ i. k + i) (position (same_name t) (cut names))
  unfolding place_from here_or
  place_counts k [] = refl
  place_counts k (a ∷ []) = refl
  place_counts k (a ∷ b ∷ []) = refl
  place_counts k (a ∷ b ∷ c ∷ names) =
      rw cut_more (go (same_name t (a ∷ b ∷ c ∷ [])) refl (place_counts (k + 1) names))
    where
      cut_more : cut (a ∷ b ∷ c ∷ names) ≡ (a ∷ b ∷ c ∷ []) ∷ cut names
      cut_more =
          let w : length (a ∷ b ∷ c ∷ names) / 3 ≡ suc (length names / 3) =
          (let p : suc (suc (suc (length names))) ≡ 3 + length names = omega arith in
          rw p (add-div_left (length names) (omega arith) ∙ add-one _)) in
          ap (λ m. first_chunks 3 m (a ∷ b ∷ c ∷ names)) w

      go :
          (s : Bool) → same_name t (a ∷ b ∷ c ∷ []) ≡ s
          → place_from (k + 1) t names ≡ option_map (λ i. k + 1 + i) (position (same_name t) (cut names))
          → here_or (same_name t (a ∷ b ∷ c ∷ [])) k (place_from (k + 1) t names)
          ≡ option_map (λ i. k + i) (position (same_name t) ((a ∷ b ∷ c ∷ []) ∷ cut names))
      go true e ih = rw (first_here (same_name t) _ (cut names) e, e) (ap Some (omega arith))
      go false e ih = rw (first_later (same_name t) _ (cut names) e, e) (ih ∙ later k _)

module _ (t names : List ℕ) (r : Option ℕ) (e : r ≡ position (same_name t) (cut names)) where
  pub which_is : (k : ℕ) → r ≡ Some k → Some k ≡ place_in t names
  which_is k q = rw (place_counts t 0 names, ← e, q, zero-add) refl

  pub which_none : r ≡ None → None ≡ place_in t names
  which_none q = rw (place_counts t 0 names, ← e, q)

pub place_below : (t names : List ℕ) (j k : ℕ) → place_from j t names ≡ Some k → 3 * k < 3 * j + length names
unfolding place_from here_or
place_below t [] j k e = absurd (none-some k e)
place_below t (a ∷ []) j k e = absurd (none-some k e)
place_below t (a ∷ b ∷ []) j k e = absurd (none-some k e)
place_below t (a ∷ b ∷ c ∷ names) j k e = go (same_name t (a ∷ b ∷ c ∷ [])) refl (place_below t names (j + 1) k)
  where
    go :
        (s : Bool) → same_name t (a ∷ b ∷ c ∷ []) ≡ s
        → (place_from (j + 1) t names ≡ Some k → 3 * k < 3 * (j + 1) + length names)
        → 3 * k < 3 * j + length (a ∷ b ∷ c ∷ names)
    go true p rest = let q : j ≡ k = cc (rw p at e) in omega arith
    go false p rest = omega (arith, rest (rw p at e))
