-- The first place of an octet in a part.
--     length_before_lem    what stands before an octet is as long as is counted before it
--     found, found_sum     the place, by what is counted in the part
--     the ruleset          finding, for `find`
-- Assumes nothing.
use Prim.Native.Nat.{ℕ, suc, ◌+◌, ◌-◌, ◌*◌, ◌^◌, ◌<◌}
use mathlib.Core.Path.{◌≡◌, refl, ap}
use mathlib.Core.List.{List}
use native.Mathlib.Omega.{arith}
use borrow.Author.Rules.{rules}
use borrow.Author.Tests.{eq-eqb}
use lib.ListN.{length, take, drop}
use mir.Syntax.{w64}
use mir.Val.{Fits}
use Rattle.octets.specs.Finding.{length_before}
use Rattle.octets.proofs.Finding.{By, none, one, other, by, before_on, before_here, before_short}
use Rattle.pieces.specs.Pieces.{before}
use Rattle.attributes.specs.Answers.{part, Within, FirstAt}
use Rattle.attributes.proofs.Parts.{part_length}

length_before_lem : (d : ℕ) {s : List ℕ} → By d s → length (before d s) ≡ length_before d s
unfolding before length_before
length_before_lem d none = refl
length_before_lem d (one {s} v) = rw (before, eq-eqb d d refl, before_here d s)
length_before_lem d (other {x} {s} e v) = rw (before, e, before_on d x s e) (ap suc (length_before_lem d v))

module _ (s : List ℕ) (from to x n : ℕ) (w : Within s from to) (e : n ≡ 0 + length_before x (take (to - from) (drop from s))) where
  pub found : FirstAt s from to x (from + n)
  unfolding part
  found =
      let p = by x (part s from to) in
      record {
        is = omega (arith, length_before_lem x p);
        upto = omega (arith, before_short p, part_length s from to w.upto);
      }

  pub found_sum : length s * 1 < 2 ^ 63 → Fits w64 (from + n)
  found_sum l = record { fits = omega (arith, found.upto, w.upto) }

pub ruleset finding = (found, found_sum, rules)
