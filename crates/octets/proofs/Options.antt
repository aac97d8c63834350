-- Laws on what may be absent, and on lists, over any type.
--     by_option                             it is absent, or there
--     some_front, else_front, front_some    an element in front of a list that may be absent
--     some_else                             what is there is what `or_else` gives
--     only_one_lem, only_listed, only_two   the element of a list of exactly one
--     each_front                            what holds of each element, with one more in front
--     total_none, total_one, total_less     how long the texts of elements are
--     Takes, takes_more, takes_front        they are no longer than a number, where the list is there
-- Assumes nothing.
use Prim.Native.Nat.{ℕ, ◌+◌, ◌≤◌}
use mathlib.Core.Path.{◌≡◌, refl}
use mathlib.Core.Bool.{true}
use mathlib.Core.List.{List, [], ◌∷◌}
use Rattle.std.specs.Prelude.{Option, Some, None}
use native.Mathlib.Omega.{arith}
use lib.ListN.{length}
use Rattle.octets.specs.Options.{is_some, or_else, in_front, only_one, IfSome, Each, total}

module _ {A : Type 0} where
  pub by_option : {P : Type 0} (o : Option A) → (o ≡ None → P) → ((x : A) → o ≡ Some x → P) → P
  by_option None f g = f refl
  by_option (Some x) f g = g x refl

  pub some_front : (x : A) (o : Option (List A)) → is_some (in_front x o) ≡ is_some o
  unfolding is_some in_front
  some_front x None = refl
  some_front x (Some rest) = refl

  pub else_front : (x : A) (o : Option (List A)) → is_some o ≡ true → or_else [] (in_front x o) ≡ x ∷ or_else [] o
  unfolding is_some or_else in_front
  else_front x None e = cc
  else_front x (Some rest) e = refl

  pub front_some : (x : A) (o : Option (List A)) (all : List A) → in_front x o ≡ Some all → (rest : List A) × ((o ≡ Some rest) × (all ≡ x ∷ rest))
  unfolding in_front
  front_some x None all e = let z : ◌≡◌ {A = ℕ} 0 1 = cc in absurd (omega arith)
  front_some x (Some rest) all e = (rest, (refl, cc))

  pub some_else : (d : A) (o : Option A) → is_some o ≡ true → o ≡ Some (or_else d o)
  unfolding is_some or_else
  some_else d None e = cc
  some_else d (Some x) e = refl

  pub only_one_lem : (xs : List A) (x : A) → only_one xs ≡ Some x → xs ≡ x ∷ []
  unfolding only_one
  only_one_lem [] x e = cc
  only_one_lem (y ∷ []) x e = cc
  only_one_lem (y ∷ z ∷ rest) x e = cc

  -- of a list that may be absent
  pub only_listed : (o : Option (List A)) (x : A) → only_one (or_else [] o) ≡ Some x → o ≡ Some (x ∷ [])
  unfolding only_one or_else
  only_listed None x e = cc
  only_listed (Some xs) x e = rw (only_one_lem xs x e)

  pub only_two : (x y : A) (o : Option (List A)) → only_one (or_else [] (in_front x (in_front y o))) ≡ None
  unfolding only_one or_else in_front
  only_two x y None = refl
  only_two x y (Some rest) = refl

  pub each_front : (P : A → Type 0) (x : A) (o : Option (List A)) → P x → IfSome (Each P) o → IfSome (Each P) (in_front x o)
  unfolding in_front Each
  each_front P x None p h = tt
  each_front P x (Some rest) p h = (p, h)

module _ {A : Type 0} (text : A → List ℕ) where
  pub total_none : total text [] ≡ 0
  unfolding total
  total_none = refl

  pub total_one : (x : A) (rest : List A) → total text (x ∷ rest) ≡ length (text x) + 1 + total text rest
  unfolding total
  total_one x rest = refl

  pub total_less : (x : A) (rest : List A) → total text rest ≤ total text (x ∷ rest)
  total_less x rest = omega (arith, total_one x rest)

  abbrev pub Takes : ℕ → Option (List A) → Type 0
  Takes n o = IfSome (λ (xs : List A). total text xs ≤ n) o

  pub takes_more : (n m : ℕ) (o : Option (List A)) → n ≤ m → Takes n o → Takes m o
  takes_more n m None l h = tt
  takes_more n m (Some xs) l h = omega arith

  pub takes_front : (n m : ℕ) (x : A) (o : Option (List A)) → length (text x) + 1 + n ≤ m → Takes n o → Takes m (in_front x o)
  unfolding in_front
  takes_front n m x None l h = tt
  takes_front n m x (Some xs) l h = omega (arith, total_one x xs)
