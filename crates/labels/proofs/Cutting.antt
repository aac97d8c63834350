-- Labels as pieces of a domain.
--     label_shape, labels    a label is a text of its octets with a shape; a dot (46) is no such octet
--     label_atom             an octet of a label is one of an atom
-- Assumes nothing.
use Prim.Native.Nat.{ℕ}
use mathlib.Core.Path.{◌≡◌, refl}
use mathlib.Core.Bool.{Bool, true, false, ◌&&◌, ◌||◌, or-true, or-false}
use mathlib.Core.List.{List}
use borrow.Author.Tests.{eqb-true}
use lib.Dec.{leb, eqb}
use lib.ListN.{length}
use Rattle.octets.specs.Tests.{every}
use Rattle.octets.proofs.Tests.{by_test}
use Rattle.runs.specs.Runs.{letter, digit, among, signs, belongs}
use Rattle.runs.specs.declared.Class.TheVariants.{Atom}
use Rattle.pieces.proofs.Joined.{Cut}
use Rattle.asciiaddress.specs.Ascii.{free_ends}
use Rattle.labels.specs.Labels.{label_octet, label_form, fits, label}

unfoldable pub label_shape : List ℕ → Bool
label_shape s = leb 1 (length s) && free_ends s && fits (label_form s)

pub labels : Cut label_octet 46 label label_shape
unfolding label_octet belongs label label_shape
labels = record { out = refl; is = λ p. turned (leb 1 (length p)) (every label_octet p) (free_ends p) (fits (label_form p)) }
  where
    turned : (a b c d : Bool) → (((a && b) && c) && d) ≡ (((a && c) && d) && b)
    turned false b c d = refl
    turned true true true true = refl
    turned true true true false = refl
    turned true true false d = refl
    turned true false true true = refl
    turned true false true false = refl
    turned true false false d = refl

pub label_atom : (x : ℕ) → label_octet x ≡ true → belongs Atom x ≡ true
unfolding label_octet belongs
label_atom x e =
    by_test (leb 128 x)
    (λ h. rw h (or-true (letter x || digit x || among signs x)))
    (λ h.
    by_test (eqb x 45)
    (λ k. rw (eqb-true x 45 k))
    (λ k. let t : (letter x || digit x) ≡ true = rw (h, k, or-false, or-false) at e in rw t))
