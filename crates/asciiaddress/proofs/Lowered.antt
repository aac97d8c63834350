-- Both sides of an address in lower case (`lower_sides`).
--     local_free                   the lower case of a local part has no "@" (64)
--     before_sides, from_sides     its two sides
--     lowered_append               ASCII capitals made small in two texts, one behind the other
--     lowered_sides                and on both sides
--     ascii_before, sides_ascii    a text in ASCII
-- Assumes nothing.
use Prim.Native.Nat.{ℕ}
use mathlib.Core.Path.{◌≡◌, refl, sym, ap, ◌∙◌}
use mathlib.Core.Bool.{true, not}
use mathlib.Core.List.{List, [], ◌∷◌, ◌++◌, append-nil}
use native.Mathlib.Omega.{arith}
use lib.Dec.{ltb, eqb}
use Rattle.octets.specs.Octets.{lowered}
use Rattle.octets.specs.Tests.{every}
use Rattle.octets.proofs.Tests.{and_left}
use Rattle.octets.proofs.Every.{every_append}
use Rattle.utf8.specs.Lowering.{lower_text}
use Rattle.utf8.specs.Steps.{all_ascii}
use Rattle.utf8.proofs.Alike.{Alike, nothing, alike_lowered, alike_every, near_sign}
use Rattle.utf8.proofs.Lowering.{alike_text, text_ascii}
use Rattle.pieces.specs.Pieces.{before, from}
use Rattle.pieces.proofs.Pieces.{before_from, before_free, from_opens, before_into, from_into}
use Rattle.asciiaddress.specs.Answers.{lower_sides}
use Rattle.asciiaddress.proofs.Alike.{alike_before}

alike_empty : {t : List ℕ} → Alike [] t → t ≡ []
alike_empty nothing = refl

module _ (s : List ℕ) where
  pub local_free : every (λ x. not (eqb x 64)) (lower_text (before 64 s)) ≡ true
  local_free =
      alike_every (λ x. not (eqb x 64)) (λ x y n. ap not (near_sign 64 (omega arith) n)) (alike_text (before 64 s))
      ∙ before_free 64 s

  -- what stands from the "@" on begins with it, or is nothing
  none_before : before 64 (lowered (from 64 s)) ≡ []
  none_before = alike_empty (rw (from_opens 64 s) at (alike_before 64 (omega arith) (alike_lowered (from 64 s))))

  pub before_sides : before 64 (lower_sides s) ≡ lower_text (before 64 s)
  unfolding lower_sides
  before_sides =
      before_into (λ x. not (eqb x 64)) 64 refl (lower_text (before 64 s)) (lowered (from 64 s)) local_free
      ∙ rw none_before (append-nil _)

  pub from_sides : from 64 (lower_sides s) ≡ lowered (from 64 s)
  unfolding lower_sides
  from_sides =
      from_into (λ x. not (eqb x 64)) 64 refl (lower_text (before 64 s)) (lowered (from 64 s)) local_free
      ∙ ap (λ w. w ++ from 64 (lowered (from 64 s))) (sym none_before)
      ∙ before_from 64 (lowered (from 64 s))

pub lowered_append : (a b : List ℕ) → lowered (a ++ b) ≡ lowered a ++ lowered b
unfolding lowered
lowered_append [] b = refl
lowered_append (x ∷ a) b = rw (lowered_append a b)

pub lowered_sides : (s : List ℕ) → lowered (before 64 s) ++ lowered (from 64 s) ≡ lowered s
lowered_sides s = sym (lowered_append (before 64 s) (from 64 s)) ∙ ap lowered (before_from 64 s)

ascii_front : (a b : List ℕ) → all_ascii (a ++ b) ≡ true → all_ascii a ≡ true
ascii_front a b e = and_left (all_ascii a) (all_ascii b) (rw (every_append (λ x. ltb x 0x80) a b) at e)

module _ (s : List ℕ) (e : all_ascii s ≡ true) where
  pub ascii_before : all_ascii (before 64 s) ≡ true
  ascii_before = ascii_front (before 64 s) (from 64 s) (rw before_from e)

  pub sides_ascii : lower_sides s ≡ lowered s
  unfolding lower_sides
  sides_ascii = rw (text_ascii (before 64 s) ascii_before) (lowered_sides s)
