-- Answers put into numbers, and numbers put into a setting.
--     quick_same               equal answers of `recommend_quick` have the same numbers
--     of_not_written           a writer that refuses answers the length 0 (R34)
--     set_take .. set_unset    the gossip setting: take, skip, and unset for every other number (G1)
-- Assumes nothing.
use Rattle.std.specs.Prelude.{Result, Err}
use Prim.Native.Nat.{ℕ}
use mathlib.Core.Path.{◌≡◌, ap, ◌∙◌}
use mathlib.Core.Bool.{Bool}
use mathlib.Core.List.{List}
use borrow.Author.Tests.{eq-eqb, ne_eqb}
use Rattle.refusals.specs.Refusals.{number_of}
use Rattle.refusals.specs.declared.Refusal.{Refusal}
use Rattle.settings.specs.declared.Gossip.TheVariants.{Take, Skip, Unset}
use Rattle.recommend.specs.Recommending.{recommended_of, looked_up_of, quick_of}
use Rattle.recommend.specs.declared.Quick.{Quick as Quickly}
use Rattle.recommend.proofs.Range.{quick_whole}
use Rattle.cabi.specs.Numbers.{written_in_numbers, setting_of, quick_in_numbers}
use Rattle.cabi.specs.declared.numbers.Quick.{Quick}
use Rattle.cabi.specs.declared.numbers.Written.{Written}

-- what the call ensures of its answer, said of its numbers
pub quick_same :
    (t s : List ℕ) (m reply : Bool) (q : Quickly) (r : Quick) → r ≡ quick_in_numbers q → q.answer ≡ recommended_of t s m reply
    → q.looked_up ≡ looked_up_of t s m reply → r ≡ quick_in_numbers (quick_of t s m reply)
quick_same t s m reply q r p e n = p ∙ ap quick_in_numbers (quick_whole t s m reply q e n)

-- R34: with a refusal there is no length
pub of_not_written :
    (a : Result ℕ Refusal) (n : ℕ) (r : Refusal) → a ≡ Err r → n ≡ number_of r → ◌≡◌ {A = Written} (record { number = n; length = 0 }) (written_in_numbers a)
unfolding written_in_numbers
of_not_written a n r e q = rw (e, q)

-- G1: take, skip, and unset for every other number
module _ (n : ℕ) where
  pub set_take : n ≡ 1 → Take ≡ setting_of n
  unfolding setting_of
  set_take e = rw (setting_of, eq-eqb n 1 e)

  pub set_skip : (n ≡ 1 → ⊥) → n ≡ 2 → Skip ≡ setting_of n
  unfolding setting_of
  set_skip d e = rw (setting_of, ne_eqb n 1 d, eq-eqb n 2 e)

  pub set_unset : (n ≡ 1 → ⊥) → (n ≡ 2 → ⊥) → Unset ≡ setting_of n
  unfolding setting_of
  set_unset d e = rw (setting_of, ne_eqb n 1 d, ne_eqb n 2 e)
