-- How long a label can be: at most four times as long as its form.
--     label_long
-- Assumes nothing.
use Prim.Native.Nat.{ℕ, ◌*◌, ◌≤◌}
use mathlib.Core.Path.{◌≡◌}
use mathlib.Core.Bool.{true}
use mathlib.Core.List.{List, ◌++◌}
use Rattle.std.specs.Prelude.{Some}
use native.Mathlib.Omega.{arith}
use lib.ListN.{length}
use Rattle.octets.specs.Octets.{lowered}
use Rattle.octets.specs.Options.{or_else}
use Rattle.octets.proofs.Letters.{length_lowered}
use Rattle.octets.proofs.Tests.{by_test}
use Rattle.utf8.specs.Lowering.{lower_points}
use Rattle.utf8.specs.Steps.{all_ascii}
use Rattle.utf8.proofs.Mapping.{lower_points_length}
use Rattle.codepoints.proofs.Bounds.{points_fewer}
use Rattle.punycode.specs.Punycode.{encode}
use Rattle.punycode.proofs.Lengths.{encode_most}
use Rattle.labels.specs.Labels.{opening, label_form, label, labelled}
use Rattle.labels.proofs.Forming.{form_ascii, coded_as, label_points}

module _ (s : List ℕ) (h : label s ≡ true) where
  labelled_as : (w : List ℕ) → label_form s ≡ Some w → length s ≤ 4 * length w → length s ≤ 4 * length (labelled s)
  unfolding labelled or_else
  labelled_as w e l = rw e l

  pub label_long : length s ≤ 4 * length (labelled s)
  label_long =
      by_test (all_ascii s)
      (λ a. labelled_as (lowered s) (form_ascii s a) (rw length_lowered (omega arith)))
      (λ a.
      label_points s h a
      (λ ps e.
      labelled_as (opening ++ encode (lower_points ps)) (coded_as s a ps e)
      (omega (arith, points_fewer s ps e, encode_most (lower_points ps), lower_points_length ps))))
