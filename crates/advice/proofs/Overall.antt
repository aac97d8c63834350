-- A5: the advice for a whole list is the lowest of its recipients'.
--     least_is, disable_told        by what the code derives for advices: the lower of two, and whether one is disable
--     overall_one, overall_two      by `lower_of` over the list, from its front
--     overall_last                  with one more at its end, as the loop of `recommend` goes
-- Assumes nothing.
use mathlib.Core.Path.{◌≡◌, refl, ◌∙◌}
use mathlib.Core.List.{List, [], ◌∷◌, ◌++◌}
use native.Mathlib.Omega.{arith}
use Rattle.advice.specs.Advice.{any_disable, all_encrypt, any_discourage, overall, is_disable}
use Rattle.std.specs.Ordering.{ord_min}
use Rattle.advice.specs.Places.{lower_of}
use Rattle.advice.specs.contracts.AdviceOrd.TheImpl as order
use Rattle.advice.specs.contracts.AdvicePartialEq.TheImpl as equality
use Rattle.advice.specs.declared.Advice.{Advice}
use Rattle.advice.specs.declared.Advice.TheVariants.{Disable, Discourage, Available, Encrypt}

-- A1: the lower of two by the order of the variants, which the code derives
pub least_is : (a b : Advice) → ord_min (order.ghosts).cmp a b ≡ lower_of a b
unfolding lower_of
least_is a b = grind arith

-- A13: so it tells disable
pub disable_told : (a : Advice) → (equality.ghosts).eq a Disable ≡ is_disable a
disable_told a = grind arith

pub overall_one : (a : Advice) → overall (a ∷ []) ≡ a
unfolding overall any_disable all_encrypt any_discourage
overall_one Disable = refl
overall_one Discourage = refl
overall_one Available = refl
overall_one Encrypt = refl

pub overall_two : (a b : Advice) (rest : List Advice) → overall (a ∷ b ∷ rest) ≡ overall (lower_of a b ∷ rest)
unfolding overall any_disable all_encrypt any_discourage lower_of
overall_two Disable b rest = refl
overall_two Discourage Disable rest = refl
overall_two Discourage Discourage rest = refl
overall_two Discourage Available rest = refl
overall_two Discourage Encrypt rest = refl
overall_two Available Disable rest = refl
overall_two Available Discourage rest = refl
overall_two Available Available rest = refl
overall_two Available Encrypt rest = refl
overall_two Encrypt b rest = refl

-- one more at the end
last_of_some : (a : Advice) (list : List Advice) (x : Advice) → overall (a ∷ list ++ x ∷ []) ≡ lower_of (overall (a ∷ list)) x
last_of_some a [] x = overall_two a x [] ∙ overall_one (lower_of a x) ∙ rw (overall_one a)
last_of_some a (b ∷ list) x = overall_two a b (list ++ x ∷ []) ∙ last_of_some (lower_of a b) list x ∙ rw (overall_two a b list)

pub overall_last : (list : List Advice) (x : Advice) → overall (list ++ x ∷ []) ≡ lower_of (overall list) x
unfolding overall all_encrypt any_disable lower_of
overall_last [] x = overall_one x
overall_last (a ∷ list) x = last_of_some a list x
