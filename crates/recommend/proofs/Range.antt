-- A12, A13: the count of `recommend_quick`, and its whole answer.
--     count_in_range              with an advice it is 1 to 100
--     looked_up_most              it is never more
--     quick_whole                 with the answer of `recommend` it is the whole answer
--     counted_place, counted_all  where the first disable stands; and the length of a list without one
-- Assumes nothing.
use Prim.Native.Nat.{ℕ, ◌≤◌, zero-le}
use mathlib.Core.Path.{◌≡◌, sym, ap, ◌∙◌}
use mathlib.Core.Bool.{Bool, true, false, false≢true}
use mathlib.Core.List.{List, []}
use Rattle.std.specs.Prelude.{Option, Some, None, Result, Ok}
use native.Mathlib.Omega.{arith}
use borrow.Author.Tests.{leb-true}
use lib.Dec.{leb}
use lib.ListN.{length, length-map}
use Rattle.octets.specs.Options.{or_else}
use Rattle.octets.proofs.Tests.{and_left, and_right}
use Rattle.refusals.specs.declared.Refusal.{Refusal}
use Rattle.refusals.proofs.Rows.{by_refusal, refused_is, done_is}
use Rattle.addresslist.specs.List.{addresses}
use Rattle.advice.specs.Advice.{any_disable, first_disable, DisableAt, advice_in, advised}
use Rattle.advice.specs.declared.Advice.{Advice}
use Rattle.advice.specs.declared.Advice.TheVariants.{Disable}
use Rattle.advice.proofs.First.{first_least, first_most, place_of_first, place_of_none}
use Rattle.recommend.specs.Recommending.{most_recipients, recipient_list, refused_recommending, recommended_of, looked_up_of, quick_of}
use Rattle.recommend.specs.declared.Quick.{Quick}
use Rattle.recommend.proofs.Recommending.{admitted_recipients, done_advised, done_admitted}

in_range : (o : Option (List (List ℕ))) → recipient_list o ≡ true → (1 ≤ length (or_else [] o)) × (length (or_else [] o) ≤ most_recipients)
unfolding recipient_list or_else
in_range None e = absurd (false≢true e)
in_range (Some list) e =
    (leb-true 1 (length list) (and_left (leb 1 (length list)) _ e), leb-true (length list) most_recipients (and_right (leb 1 (length list)) _ e))

module _ (t s : List ℕ) (m reply : Bool) where
  abbrev all : List Advice
  all = advised t m reply (or_else [] (addresses s))

  counted : refused_recommending t s ≡ None → looked_up_of t s m reply ≡ first_disable all
  unfolding looked_up_of
  counted o = done_is (λ (x : Refusal). 0) (first_disable all) (refused_recommending t s) o

  admitted_range : refused_recommending t s ≡ None → (1 ≤ looked_up_of t s m reply) × (looked_up_of t s m reply ≤ most_recipients)
  unfolding advised
  admitted_range o =
      let Some = in_range (addresses s) (admitted_recipients t s o) in
      let long : length all ≡ length (or_else [] (addresses s)) = length-map (or_else [] (addresses s)) (advice_in t m reply) in
      rw (counted o)
      (first_least all (rw long Some.0), omega (arith, first_most all, long, Some.1))

  -- A13: with an advice
  pub count_in_range : (a : Advice) → recommended_of t s m reply ≡ Ok a → (1 ≤ looked_up_of t s m reply) × (looked_up_of t s m reply ≤ most_recipients)
  count_in_range a e = admitted_range (done_admitted t s m reply a e)

  pub looked_up_most : looked_up_of t s m reply ≤ most_recipients
  unfolding looked_up_of
  looked_up_most =
      by_refusal (refused_recommending t s)
      (λ r o. rw (refused_is (λ (x : Refusal). 0) (first_disable all) (refused_recommending t s) r o) zero-le)
      (λ o. (admitted_range o).1)

  -- C21: a list that gets disable
  pub counted_place : recommended_of t s m reply ≡ Ok Disable → DisableAt all (looked_up_of t s m reply)
  counted_place e =
      rw (counted (done_admitted t s m reply Disable e)) (place_of_first all (sym (done_advised t s m reply Disable e)))

  -- C21: a list that gets another advice
  pub counted_all : (a : Advice) → recommended_of t s m reply ≡ Ok a → (a ≡ Disable → ⊥)
      → (looked_up_of t s m reply ≡ length (or_else [] (addresses s))) × (any_disable all ≡ false)
  unfolding advised
  counted_all a e d =
      let None = place_of_none all (λ q. d (done_advised t s m reply a e ∙ q)) in
      (counted (done_admitted t s m reply a e) ∙ None.0 ∙ length-map (or_else [] (addresses s)) (advice_in t m reply), None.1)

  -- A12: both claims of the contract say what the whole answer is
  pub quick_whole : (r : Quick) → r.answer ≡ recommended_of t s m reply → r.looked_up ≡ looked_up_of t s m reply → r ≡ quick_of t s m reply
  unfolding quick_of
  quick_whole r e n =
      ap (λ (a : Result Advice Refusal). record { answer = a; looked_up = r.looked_up }) e
      ∙ ap (λ (k : ℕ). record { answer = recommended_of t s m reply; looked_up = k }) n
