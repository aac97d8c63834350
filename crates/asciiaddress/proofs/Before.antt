-- The old rule (T16), by which a table was sound once, and the rule in force where labels are ASCII.
--     was_plain          what is canonical by the old rule is a plain address with labels in ASCII
--     was_most           and within the limit of L6
--     was_same           and has no ASCII capital
--     own_plain, own_same, own_left, own_right    the same of what is canonical now
--     was_canonical_lem  what is canonical now was so by the old rule
-- Assumes nothing.
use Prim.Native.Nat.{ℕ, ◌≤◌}
use mathlib.Core.Path.{◌≡◌, sym, ap, ◌∙◌}
use mathlib.Core.Bool.{true}
use mathlib.Core.List.{List}
use lib.ListN.{length}
use Rattle.octets.specs.Octets.{same_octets, lowered}
use Rattle.octets.proofs.Tests.{and_left, and_right}
use Rattle.octets.proofs.Comparing.{same_refl, same_true}
use Rattle.utf8.specs.Lowering.{lower_text}
use Rattle.utf8.proofs.Lowering.{text_small}
use Rattle.pieces.specs.Pieces.{before, from}
use Rattle.pieces.proofs.Pieces.{before_from}
use Rattle.asciiaddress.specs.Ascii.{ascii_plain, ascii_form, was_canonical}
use Rattle.asciiaddress.specs.Answers.{lower_sides, ascii_canonical}
use Rattle.asciiaddress.proofs.Sides.{sides}
use Rattle.asciiaddress.proofs.Lowered.{before_sides, from_sides, lowered_sides}

module _ (s : List ℕ) (w : was_canonical s ≡ true) where
  pub was_plain : ascii_plain s ≡ true
  unfolding was_canonical
  was_plain = and_left (ascii_plain s) (same_octets (ascii_form s) s) w

  pub was_most : length s ≤ 254
  was_most = (sides s was_plain).short

  pub was_same : lowered s ≡ s
  unfolding was_canonical ascii_form
  was_same = same_true (lowered s) s (and_right (ascii_plain s) (same_octets (lowered s) s) w)

module _ (s : List ℕ) (c : ascii_canonical s ≡ true) where
  pub own_plain : ascii_plain s ≡ true
  unfolding ascii_canonical
  own_plain = and_left (ascii_plain s) (same_octets (lower_sides s) s) c

  pub own_same : lower_sides s ≡ s
  unfolding ascii_canonical
  own_same = same_true (lower_sides s) s (and_right (ascii_plain s) (same_octets (lower_sides s) s) c)

  pub own_left : lower_text (before 64 s) ≡ before 64 s
  own_left = sym (before_sides s) ∙ ap (before 64) own_same

  pub own_right : lowered (from 64 s) ≡ from 64 s
  own_right = sym (from_sides s) ∙ ap (from 64) own_same

  whole : lowered s ≡ s
  whole = sym (lowered_sides s) ∙ rw (text_small (before 64 s) own_left, own_right) (before_from 64 s)

  pub was_canonical_lem : was_canonical s ≡ true
  unfolding was_canonical ascii_form
  was_canonical_lem = rw (own_plain, whole) (same_refl s)
