-- A label that was given in UTF-8 is shown again, in lower case (C20).
--     shown_labelled
-- Assumes nothing.
use Prim.Native.Nat.{ℕ, ◌+◌, ◌-◌}
use mathlib.Core.Path.{◌≡◌, refl, sym, ◌∙◌}
use mathlib.Core.Bool.{true, false}
use mathlib.Core.List.{List, ◌++◌}
use Rattle.std.specs.Prelude.{Some}
use native.Mathlib.Omega.{arith}
use borrow.Author.Tests.{le-leb, lt-leb}
use lib.Dec.{leb}
use lib.ListN.{length}
use Rattle.octets.specs.Octets.{starts_with}
use Rattle.octets.specs.Options.{or_else}
use Rattle.octets.proofs.Comparing.{same_refl}
use Rattle.utf8.specs.Utf8.{points, encoded, scalars}
use Rattle.utf8.specs.Lowering.{lower_points, lower_text}
use Rattle.utf8.specs.Steps.{all_ascii}
use Rattle.utf8.proofs.RoundTrip.{points_encoded}
use Rattle.utf8.proofs.Scalars.{points_scalars}
use Rattle.utf8.proofs.Mapping.{lower_points_twice, lower_points_scalar}
use Rattle.utf8.proofs.Alike.{Near, equal, letters, high, Alike, alike_length, alike_at, alike_every, alike_ascii, near_sign}
use Rattle.utf8.proofs.Lowering.{text_some, alike_text}
use Rattle.punycode.specs.Punycode.{encode}
use Rattle.punycode.proofs.RoundTrip.{decode_encode}
use Rattle.asciiaddress.specs.Ascii.{free_ends}
use Rattle.asciiaddress.proofs.Alike.{near_label}
use Rattle.labels.specs.Labels.{label_octet, opening, label_form, label, labelled}
use Rattle.labels.proofs.Forming.{is_some, all_label, is_free, is_fit, coded_as, label_points}
use Rattle.showing.specs.Showing.{same_form, shown_by, shown}

-- a text and its lower case have the octets and the ends of labels, or neither has
near_high : {x y : ℕ} → Near x y → leb 128 y ≡ leb 128 x
near_high equal = refl
near_high (letters {x} h k) = lt-leb 128 (x + 32) (omega arith) ∙ sym (lt-leb 128 x (omega arith))
near_high (high {x} {y} h k l) = le-leb 128 y k ∙ sym (le-leb 128 x h)

near_octet : {x y : ℕ} → Near x y → label_octet y ≡ label_octet x
unfolding label_octet
near_octet n = rw (near_label n, near_high n)

near_ends : {s t : List ℕ} → Alike s t → free_ends t ≡ free_ends s
unfolding free_ends
near_ends {s} {t} a =
    rw (alike_length a, near_sign 45 (omega arith) (alike_at a 0), near_sign 45 (omega arith) (alike_at a (length s - 1)))

module _ (s : List ℕ) (h : label s ≡ true) (a : all_ascii s ≡ false) where
  module _ (ps : List ℕ) (e : points s ≡ Some ps) where
    abbrev small : List ℕ
    small = lower_points ps

    abbrev form : List ℕ
    form = opening ++ encode small

    small_points : scalars small ≡ true
    small_points = lower_points_scalar ps (points_scalars s ps e)

    text : lower_text s ≡ encoded small
    text = text_some s ps e

    alike : Alike s (encoded small)
    alike = rw text at (alike_text s)

    its_form : label_form s ≡ Some form
    its_form = coded_as s a ps e

    text_form : label_form (encoded small) ≡ Some form
    text_form = coded_as (encoded small) (alike_ascii alike ∙ a) small (points_encoded small small_points) ∙ rw (lower_points_twice ps)

    text_label : label (encoded small) ≡ true
    unfolding label
    text_label =
        rw (
          alike_length alike,
          le-leb 1 (length s) (is_some s h),
          alike_every label_octet (λ x y n. near_octet n) alike,
          all_label s h,
          near_ends alike,
          is_free s h,
          text_form,
        ) (rw its_form at (is_fit s h))

    its_labelled : labelled s ≡ form
    unfolding labelled or_else
    its_labelled = rw its_form

    shown_form : shown form ≡ encoded small
    unfolding shown starts_with shown_by same_form
    shown_form = rw (decode_encode small small_points, text_label, text_form, same_refl form)

  pub shown_labelled : shown (labelled s) ≡ lower_text s
  shown_labelled = label_points s h a (λ ps e. rw (its_labelled ps e) (shown_form ps e) ∙ sym (text ps e))
