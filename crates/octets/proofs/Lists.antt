-- Laws on lists and numbers that the toolchain's library lacks, stated as code has them: at `i + 1`, at `get_or s i 0`.
--     lt_or_le              one of two numbers is below the other or it is not
--     drop_one              what is left from i on, where something is left: an element and what is left from i + 1 on
--     take_one              the first n + 1 elements
--     drop_done             nothing is left from the end on
--     left_one              n - i falls by one to n - (i + 1)
--     AtMost, at_most       no element of a list is above a number
--     given_octets          what owning a slice tells of its elements: they are octets
--     drop_octets, take_octets    the elements of a part are octets, too
-- Assumes nothing.
use Prim.Native.Nat.{ℕ, suc, zero, ◌+◌, ◌-◌, ◌<◌, ◌≤◌}
use mathlib.Core.Path.{◌≡◌, refl, ◌∙◌}
use mathlib.Core.Logic.{◌⊎◌, inl, inr, ⊎_elim}
use mathlib.Core.Bool.{Bool, true, false}
use mathlib.Core.List.{List, [], ◌∷◌, ◌++◌}
use native.Mathlib.Numerals.{add-one}
use native.Mathlib.Omega.{arith}
use borrow.Author.Tests.{ltb-true, ltb-false}
use lib.Dec.{ltb}
use lib.ListN.{length, get_or, take, drop, drop_of_length-le, length-take, get_or-eq_default}
use lib.Seq.{drop-cons, take-suc, get_or-drop, get_or-take}
use mir.Syntax.{w8}
use mir.Val.{Fits}
use Rattle.octets.specs.Octets.{AllOctets}

pub lt_or_le : (m n : ℕ) → (m < n) ⊎ (n ≤ m)
lt_or_le m n = go (ltb m n) refl
  where
    go : (b : Bool) → ltb m n ≡ b → (m < n) ⊎ (n ≤ m)
    go true e = inl (ltb-true m n e)
    go false e = inr (ltb-false m n e)

pub drop_one : (s : List ℕ) (i : ℕ) → i < length s → drop i s ≡ get_or s i 0 ∷ drop (i + 1) s
drop_one s i h = rw (add-one, drop-cons s i 0)

pub take_one : (s : List ℕ) (i : ℕ) → i < length s → take (i + 1) s ≡ take i s ++ (get_or s i 0 ∷ [])
take_one s i h = rw (add-one, take-suc s i 0)

pub drop_done : (s : List ℕ) (i : ℕ) → length s ≤ i → drop i s ≡ []
drop_done s i h = drop_of_length-le s h

pub left_one : (n i : ℕ) → i < n → n - i ≡ suc (n - (i + 1))
left_one n i h =
    let e : n - i ≡ (n - (i + 1)) + 1 = omega arith in
    e ∙ add-one _

pub given_octets : (s : List ℕ) → ((i : ℕ) → Fits w8 (get_or s i 0)) → AllOctets s
given_octets s g i = (g i).fits

pub drop_octets : (n : ℕ) (s : List ℕ) → AllOctets s → AllOctets (drop n s)
drop_octets n s h i = rw get_or-drop (h (n + i))

pub take_octets : (n : ℕ) (s : List ℕ) → AllOctets s → AllOctets (take n s)
take_octets n s h i =
    ⊎_elim
    (λ (l : i < n). rw (get_or-take n s i 0 l) (h i))
    (λ (l : n ≤ i). rw (get_or-eq_default (take n s) 0 {n = i} (simp length-take (omega arith))) (omega arith))
    (lt_or_le i n)

-- no number of a table is above m
abbrev pub AtMost : ℕ → List ℕ → Type 0
AtMost m [] = Unit
AtMost m (x ∷ xs) = (x ≤ m) × AtMost m xs

pub at_most : (m : ℕ) (xs : List ℕ) → AtMost m xs → (k : ℕ) → get_or xs k 0 ≤ m
at_most m [] h k = omega arith
at_most m (x ∷ xs) h zero = h.0
at_most m (x ∷ xs) h (suc k) = at_most m xs h.1 k
