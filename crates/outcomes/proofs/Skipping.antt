-- G1 and G2: what a payload comes to where gossip is not taken.
--     skipped_payload, never_seven    said of `process`
--     one_takes                       in C gossip is taken with the number 1 alone
--     skipped_in_c                    `skipped_payload`, said of `vienghulac_process`
-- Assumes nothing.
use Prim.Native.Nat.{ℕ}
use mathlib.Core.Path.{◌≡◌, refl, sym, ap, ◌∙◌}
use mathlib.Core.Logic.{◌↔◌}
use mathlib.Core.Bool.{Bool, true, false}
use mathlib.Core.List.{List}
use Rattle.std.specs.Prelude.{Option}
use borrow.Author.Tests.{ne_eqb}
use borrow.Fn.Claims.{AllOf}
use lib.Dec.{eqb}
use Rattle.refusals.specs.Rows.{answer_of}
use Rattle.refusals.specs.declared.Refusal.{Refusal}
use Rattle.settings.specs.Settings.{taken}
use Rattle.process.proofs.Skipping.{skipped_refusal, skipped_left, no_seven}
use Rattle.cabi.specs.Numbers.{in_numbers, setting_of}
use Rattle.outcomes.specs.Outcomes.{Meets}
use Rattle.outcomes.specs.Skipping.{SkippedPayload, NeverSeven, SkippedInC}

-- equal answers and equal memory are met by the same outcomes
met_alike : {A : Type 0} (answer other : A) (memory after : List ℕ) (r : A) (left : List ℕ) → answer ≡ other → memory ≡ after
    → AllOf (Meets answer memory r left) ↔ AllOf (Meets other after r left)
met_alike answer other memory after r left e f = (λ h. (h.0 ∙ e, h.1 ∙ f), λ h. (h.0 ∙ sym e, h.1 ∙ sym f))

pub skipped_payload : SkippedPayload
skipped_payload t receipt outer payload g r left skips =
    met_alike _ _ _ _ r left (ap (λ (o : Option Refusal). answer_of o) (skipped_refusal t receipt outer payload g skips))
    (skipped_left t receipt outer payload g skips)

pub never_seven : NeverSeven
never_seven t receipt outer payload g left skips h = no_seven t receipt outer payload g skips (sym h.0)

pub one_takes : (n : ℕ) → taken (setting_of n) ≡ eqb n 1
unfolding setting_of taken
one_takes n = go (eqb n 1) (eqb n 2) refl refl
  where
    go : (one two : Bool) → eqb n 1 ≡ one → eqb n 2 ≡ two → taken (setting_of n) ≡ one
    go true two e f = rw (setting_of, e)
    go false true e f = rw (setting_of, e, f)
    go false false e f = rw (setting_of, e, f)

pub skipped_in_c : SkippedInC
skipped_in_c t receipt outer payload n r left other =
    let skips : taken (setting_of n) ≡ false = one_takes n ∙ ne_eqb n 1 other in
    met_alike _ _ _ _ r left (ap (λ (o : Option Refusal). in_numbers (answer_of o)) (skipped_refusal t receipt outer payload (setting_of n) skips))
    (skipped_left t receipt outer payload (setting_of n) skips)
