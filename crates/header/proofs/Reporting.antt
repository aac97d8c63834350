-- The value of a Content-Type: whether it is multipart/report.
--     report_from                 where the type's name lies
--     report_short                too few octets
--     report_other, report_told   another name; the name, and what follows it
-- Assumes nothing.
use Prim.Native.Nat.{ℕ, ◌+◌, ◌-◌, ◌<◌, ◌≤◌}
use mathlib.Core.Path.{◌≡◌, sym, ◌∙◌}
use mathlib.Core.Bool.{Bool, true, false, ◌&&◌}
use mathlib.Core.List.{List}
use native.Mathlib.Omega.{arith}
use borrow.Author.Rules.{rules}
use lib.ListN.{length, take, drop, length-take, length-drop}
use lib.Seq.{drop-drop}
use Rattle.octets.specs.Octets.{same_name}
use Rattle.octets.proofs.Comparing.{name_long}
use Rattle.runs.specs.Runs.{belongs, run_length}
use Rattle.runs.specs.declared.Class.TheVariants.{Blank}
use Rattle.runs.proofs.Running.{run_upto}
use Rattle.header.specs.Header.{report, may_follow, opens_report, is_report}

module _ (s : List ℕ) (at : ℕ) (t : at ≡ 0 + run_length Blank (drop 0 s)) where
  pub report_from : at ≤ length s
  report_from = rw t (run_upto (belongs Blank) s 0 (omega arith))

  -- the answer, from where the blanks end
  here : is_report s ≡ (same_name (take 16 (drop at s)) report && may_follow (drop (at + 16) s))
  unfolding is_report opens_report
  here =
      let e : run_length Blank s ≡ at = omega arith in
      rw (is_report, opens_report, e, drop-drop 16 at s)

  pub report_short : length s - at < 16 → false ≡ is_report s
  report_short h =
      let n : false ≡ same_name (take 16 (drop at s)) report =
      name_long (take 16 (drop at s)) report
      (λ (e : length (take 16 (drop at s)) ≡ 16). omega (arith, e, length-take 16 (drop at s), length-drop at s)) in
      sym (here ∙ rw (← n))

  module _ (b : Bool) (w : b ≡ same_name (take (at + 16 - at) (drop at s)) report) where
    same_name_lem : b ≡ same_name (take 16 (drop at s)) report
    same_name_lem = let e : at + 16 - at ≡ 16 = omega arith in w ∙ rw e

    pub report_other : b ≡ false → false ≡ is_report s
    report_other q = sym (here ∙ rw (sym same_name_lem ∙ q))

    pub report_told : (f : Bool) → b ≡ true → f ≡ may_follow (drop (at + 16) s) → f ≡ is_report s
    report_told f q m = m ∙ sym (here ∙ rw (sym same_name_lem ∙ q))

pub ruleset reporting = (report_from, report_short, report_other, report_told, rules)
