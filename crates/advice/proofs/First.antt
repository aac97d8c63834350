-- A13: the place of the first disable of a list, counted from 1, and its length where there is none.
--     disable_is                        whoever has disable gets disable
--     first_least, first_most           it is 1 at least where there is someone, and the length at most
--     overall_any, any_overall          a list gets disable where someone has it, and only there
--     place_of_first, place_of_none     what the place says: the first with disable stands there; or nobody has it
--     still_disable .. first_grows      with one more at the end of the list, as the loop of `recommend` goes
--     same_front                        lists that are the same up to the first disable of one have the same place and get the same advice
-- Assumes nothing.
use Prim.Native.Nat.{ℕ, zero, suc, ◌≤◌, zero-le}
use mathlib.Core.Path.{◌≡◌, refl, sym, ap, ◌∙◌}
use mathlib.Core.Bool.{Bool, true, false, ◌||◌, false≢true}
use mathlib.Core.List.{List, [], ◌∷◌, ◌++◌, map}
use native.Mathlib.Omega.{arith}
use native.Mathlib.Numerals.{unary_clauses}
use lib.ListN.{length, length-map, take}
use lib.Seq.{take-length}
use Rattle.octets.proofs.Tests.{by_test}
use Rattle.advice.specs.Advice.{any_disable, all_encrypt, any_discourage, overall, is_disable, first_disable, DisableAt}
use Rattle.advice.specs.declared.Advice.{Advice}
use Rattle.advice.specs.declared.Advice.TheVariants.{Disable, Discourage, Available, Encrypt}

pub disable_is : (a : Advice) → is_disable a ≡ true → a ≡ Disable
disable_is Disable e = refl
disable_is Discourage e = cc
disable_is Available e = cc
disable_is Encrypt e = cc

any_front : (a : Advice) (rest : List Advice) → any_disable (a ∷ rest) ≡ is_disable a || any_disable rest
unfolding any_disable
any_front Disable rest = refl
any_front Discourage rest = refl
any_front Available rest = refl
any_front Encrypt rest = refl

module _ (a : Advice) (rest : List Advice) where
  first_here : is_disable a ≡ true → first_disable (a ∷ rest) ≡ 1
  unfolding first_disable
  first_here e = rw (first_disable, e)

  module _ (e : is_disable a ≡ false) where
    first_on : first_disable (a ∷ rest) ≡ suc (first_disable rest)
    unfolding first_disable
    first_on = rw (first_disable, e)

    any_on : any_disable (a ∷ rest) ≡ any_disable rest
    any_on = any_front a rest ∙ rw e

pub first_least : (list : List Advice) → 1 ≤ length list → 1 ≤ first_disable list
unfolding first_disable
first_least [] h = h
first_least (a ∷ rest) h =
    by_test (is_disable a)
    (λ e. rw (first_here a rest e) (omega arith))
    (λ e. rw (first_on a rest e) (omega arith))

pub first_most : (list : List Advice) → first_disable list ≤ length list
unfolding first_disable
first_most [] = zero-le
first_most (a ∷ rest) =
    by_test (is_disable a)
    (λ e. rw (first_here a rest e) (omega arith))
    (λ e. rw (first_on a rest e) (omega (arith, first_most rest)))

-- A5, by the three tests that `overall` makes
three_tests : (any all some : Bool) → elim any [ true ↦ Disable | false ↦ elim all [ true ↦ Encrypt | false ↦ elim some [ true ↦ Discourage | false ↦ Available ] ] ] ≡ Disable → any ≡ true
three_tests true all some e = refl
three_tests false true some e = cc
three_tests false false true e = cc
three_tests false false false e = cc

pub overall_any : (list : List Advice) → overall list ≡ Disable → any_disable list ≡ true
unfolding overall
overall_any list e = three_tests (any_disable list) (all_encrypt list) (any_discourage list) e

pub any_overall : (list : List Advice) → any_disable list ≡ true → overall list ≡ Disable
unfolding overall
any_overall list e = rw (overall, e)

at_front : (a : Advice) (rest : List Advice) → is_disable a ≡ true → DisableAt (a ∷ rest) 1
unfolding any_disable
at_front a rest e = record { counted = omega arith; there = disable_is a e; before = refl }

further_on : (a : Advice) (rest : List Advice) (n : ℕ) → is_disable a ≡ false → DisableAt rest n → DisableAt (a ∷ rest) (suc n)
further_on a rest zero e h = absurd (omega (arith, h.counted))
further_on a rest (suc n) e h =
    record {
      counted = omega arith;
      there = simp unary_clauses (simp unary_clauses at h.there);
      before = simp unary_clauses (any_on a (take n rest) e ∙ (simp unary_clauses at h.before));
    }

first_at : (list : List Advice) → any_disable list ≡ true → DisableAt list (first_disable list)
unfolding any_disable
first_at [] h = absurd (false≢true h)
first_at (a ∷ rest) h =
    by_test (is_disable a)
    (λ e. rw (first_here a rest e) (at_front a rest e))
    (λ e. rw (first_on a rest e) (further_on a rest (first_disable rest) e (first_at rest (sym (any_on a rest e) ∙ h))))

first_none : (list : List Advice) → any_disable list ≡ false → first_disable list ≡ length list
unfolding first_disable
first_none [] h = refl
first_none (a ∷ rest) h =
    by_test (is_disable a)
    (λ e. absurd (false≢true (sym h ∙ any_front a rest ∙ rw e)))
    (λ e. first_on a rest e ∙ ap suc (first_none rest (sym (any_on a rest e) ∙ h)))

-- A13, C21: in a list that gets disable the first with disable stands there
pub place_of_first : (list : List Advice) → overall list ≡ Disable → DisableAt list (first_disable list)
place_of_first list e = first_at list (overall_any list e)

-- A13, C21: in any other list nobody has disable, and the place is its length
pub place_of_none : (list : List Advice) → (overall list ≡ Disable → ⊥) → (first_disable list ≡ length list) × (any_disable list ≡ false)
place_of_none list d =
    by_test (any_disable list) (λ e. absurd (d (any_overall list e))) (λ e. (first_none list e, e))

-- one more at the end
any_last : (list : List Advice) (x : Advice) → any_disable list ≡ true → any_disable (list ++ x ∷ []) ≡ true
unfolding any_disable
any_last [] x h = absurd (false≢true h)
any_last (a ∷ rest) x h =
    any_front a (rest ++ x ∷ [])
    ∙ by_test (is_disable a) (λ e. rw e) (λ e. rw (e, any_last rest x (sym (any_on a rest e) ∙ h)))

pub still_disable : (list : List Advice) (x : Advice) → overall list ≡ Disable → overall (list ++ x ∷ []) ≡ Disable
still_disable list x e = any_overall (list ++ x ∷ []) (any_last list x (overall_any list e))

pub first_stays : (list : List Advice) (x : Advice) → any_disable list ≡ true → first_disable (list ++ x ∷ []) ≡ first_disable list
unfolding any_disable
first_stays [] x h = absurd (false≢true h)
first_stays (a ∷ rest) x h =
    by_test (is_disable a)
    (λ e. first_here a (rest ++ x ∷ []) e ∙ sym (first_here a rest e))
    (λ e. first_on a (rest ++ x ∷ []) e ∙ ap suc (first_stays rest x (sym (any_on a rest e) ∙ h)) ∙ sym (first_on a rest e))

pub first_grows : (list : List Advice) (x : Advice) → any_disable list ≡ false → first_disable (list ++ x ∷ []) ≡ suc (length list)
first_grows [] x h = by_test (is_disable x) (λ e. first_here x [] e) (λ e. first_on x [] e ∙ ap suc (first_none [] h))
first_grows (a ∷ rest) x h =
    by_test (is_disable a)
    (λ e. absurd (false≢true (sym h ∙ any_front a rest ∙ rw e)))
    (λ e. first_on a (rest ++ x ∷ []) e ∙ ap suc (first_grows rest x (sym (any_on a rest e) ∙ h)))

-- Two ways to advise on a list: where they agree on it up to the first disable of one, its place and the advice are the same, whatever the other
-- says of those behind.
module _ {A : Type 0} (f g : A → Advice) where
  any_alike : (list : List A) → map f (take (first_disable (map f list)) list) ≡ map g (take (first_disable (map f list)) list) → any_disable (map f list) ≡ true
      → (first_disable (map f list) ≡ first_disable (map g list)) × (any_disable (map g list) ≡ true)
  unfolding any_disable
  any_alike [] e h = absurd (false≢true h)
  any_alike (a ∷ rest) e h =
      by_test (is_disable (f a))
      (λ y.
      let same : f a ∷ [] ≡ g a ∷ [] = rw (first_here (f a) (map f rest) y) at e in
      let one : g a ≡ f a = cc same in
      let there : is_disable (g a) ≡ true = rw one y in
      (first_here (f a) (map f rest) y ∙ sym (first_here (g a) (map g rest) there), any_front (g a) (map g rest) ∙ rw there))
      (λ n.
      let same : f a ∷ map f (take (first_disable (map f rest)) rest) ≡ g a ∷ map g (take (first_disable (map f rest)) rest) =
      rw (first_on (f a) (map f rest) n) at e in
      let one : g a ≡ f a = cc same in
      let others : map f (take (first_disable (map f rest)) rest) ≡ map g (take (first_disable (map f rest)) rest) = cc same in
      let there : is_disable (g a) ≡ false = rw one n in
      let on = any_alike rest others (sym (any_on (f a) (map f rest) n) ∙ h) in
      (first_on (f a) (map f rest) n ∙ ap suc on.0 ∙ sym (first_on (g a) (map g rest) there), any_on (g a) (map g rest) there ∙ on.1))

  pub same_front : (list : List A) → map f (take (first_disable (map f list)) list) ≡ map g (take (first_disable (map f list)) list)
      → (first_disable (map f list) ≡ first_disable (map g list)) × (overall (map f list) ≡ overall (map g list))
  same_front list e =
      by_test (any_disable (map f list))
      (λ y. let both = any_alike list e y in (both.0, any_overall (map f list) y ∙ sym (any_overall (map g list) both.1)))
      (λ n.
      let all : first_disable (map f list) ≡ length list = first_none (map f list) n ∙ length-map list f in
      let same : map f list ≡ map g list = rw (all, take-length) at e in
      (ap first_disable same, ap overall same))
