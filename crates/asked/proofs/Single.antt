-- The one piece of a name that has no other, by the first such piece and whether one is behind it.
--     only_none, only_more, only_one_lem    its value, or that there is none such
-- Assumes nothing.
use Prim.Native.Nat.{ℕ}
use mathlib.Core.Path.{◌≡◌, refl, sym, ap, ◌∙◌}
use mathlib.Core.Bool.{true, false, false≢true}
use mathlib.Core.List.{List, [], ◌∷◌}
use Rattle.std.specs.Prelude.{Option, Some, None}
use Rattle.octets.specs.Options.{only_one}
use Rattle.attributes.specs.Answers.{part}
use Rattle.asked.specs.Asked.{is_empty, saying}
use Rattle.asked.specs.Answers.{rest_from, FoundAs}
use Rattle.asked.specs.declared.Called.{Called}
use Rattle.asked.specs.declared.Found.{Found}
use Rattle.asked.proofs.Finding.{found_first, found_none, saying_all}

module _ (x : List ℕ) where
  in_front_lem : (rest : List (List ℕ)) → is_empty rest ≡ true → only_one (x ∷ rest) ≡ Some x
  unfolding is_empty only_one
  in_front_lem [] e = refl
  in_front_lem (y ∷ rest) e = absurd (false≢true e)

  not_alone : (rest : List (List ℕ)) → is_empty rest ≡ false → only_one (x ∷ rest) ≡ None
  unfolding is_empty only_one
  not_alone [] e = absurd (false≢true (sym e))
  not_alone (y ∷ rest) e = refl

module _ (what : Called) (s : List ℕ) (k : Option Found) (p : FoundAs what s 0 k) where
  pub only_none : k ≡ None → only_one (saying what s) ≡ None
  unfolding only_one
  only_none q = rw (saying_all what s, found_none what s 0 k p q)

  module _ (f : Found) (q : k ≡ Some f) where
    all : only_one (saying what s) ≡ only_one (part s f.value.from f.value.to ∷ rest_from what s f.end)
    all = ap only_one (saying_all what s ∙ found_first what s 0 k p f q)

    pub only_more : is_empty (rest_from what s f.end) ≡ false → only_one (saying what s) ≡ None
    only_more e = all ∙ not_alone (part s f.value.from f.value.to) (rest_from what s f.end) e

    pub only_one_lem : is_empty (rest_from what s f.end) ≡ true → only_one (saying what s) ≡ Some (part s f.value.from f.value.to)
    only_one_lem e = all ∙ in_front_lem (part s f.value.from f.value.to) (rest_from what s f.end) e
