-- What may be absent, and lists, over any type.
--     is_some, or_else  whether it is there, and what stands for it where it is not
--     in_front          an element in front of a list that may be absent
--     only_one          the element of a list of exactly one
--     IfSome, Each      what holds of it where it is there, and of each element of a list
--     total             how long the texts of a list's elements are, each with one octet more
use Rattle.std.specs.Prelude.{ℕ, ◌+◌, Bool, true, false, List, [], ◌∷◌, length}
use Rattle.std.specs.Prelude.{Option, Some, None}

unfoldable pub is_some : {A : Type 0} → Option A → Bool
is_some None = false
is_some (Some x) = true

unfoldable pub or_else : {A : Type 0} → A → Option A → A
or_else d None = d
or_else d (Some x) = x

unfoldable pub in_front : {A : Type 0} → A → Option (List A) → Option (List A)
in_front x None = None
in_front x (Some rest) = Some (x ∷ rest)

unfoldable pub only_one : {A : Type 0} → List A → Option A
only_one [] = None
only_one (x ∷ []) = Some x
only_one (x ∷ y ∷ rest) = None

abbrev pub IfSome : {A : Type 0} → (A → Type 0) → Option A → Type 0
IfSome P None = Unit
IfSome P (Some x) = P x

unfoldable pub Each : {A : Type 0} → (A → Type 0) → List A → Type 0
Each P [] = Unit
Each P (x ∷ rest) = P x × Each P rest

unfoldable pub total : {A : Type 0} → (A → List ℕ) → List A → ℕ
total text [] = 0
total text (x ∷ rest) = length (text x) + 1 + total text rest
