-- Texts that are alike (`Alike` of utf8) are cut alike, and one is a plain address where the other is.
--     high_label                   an octet of 128 or more is none of a label in ASCII
--     near_label                   octets that are near each other are both of such a label, or neither is
--     alike_before                 what stands before the first `@`, dot or hyphen
--     local_alike                  the test of a local part
--     plain_alike                  the test of a plain address with labels in ASCII
-- Assumes nothing.
use Prim.Native.Nat.{ℕ, ◌+◌, ◌-◌, ◌<◌, ◌≤◌}
use mathlib.Core.Path.{◌≡◌, refl, sym, ◌∙◌}
use mathlib.Core.Bool.{Bool, true, false, and-false, or-true}
use mathlib.Core.List.{List, [], ◌∷◌}
use native.Mathlib.Omega.{arith}
use borrow.Author.Tests.{le-leb, lt-leb, ne_eqb}
use lib.Dec.{leb, eqb}
use lib.ListN.{length}
use Rattle.octets.specs.Tests.{every}
use Rattle.octets.proofs.Tests.{by_test}
use Rattle.utf8.proofs.Alike.{Near, equal, letters, high, Alike, nothing, one, alike_length, alike_at, alike_every, near_sign}
use Rattle.runs.specs.Runs.{letter, digit, among, signs, belongs}
use Rattle.runs.specs.declared.Class.TheVariants.{Atom, Label}
use Rattle.pieces.specs.Pieces.{on_first, pieces, before, behind}
use Rattle.asciiaddress.specs.Ascii.{atom, local_part, free_ends, ascii_label, ascii_domain, ascii_plain}

-- a capital and its small letter are both letters, and an octet of 128 or more is one of an atom and none of a label
module _ (x : ℕ) (h : 65 ≤ x) (k : x ≤ 90) where
  capital_letter : letter x ≡ true
  capital_letter = rw (le-leb 65 x h, le-leb x 90 k)

  small_letter : letter (x + 32) ≡ true
  small_letter =
      rw (le-leb 65 (x + 32) (omega arith), lt-leb (x + 32) 90 (omega arith), le-leb 97 (x + 32) (omega arith), le-leb (x + 32) 122 (omega arith))

module _ (x : ℕ) (h : 128 ≤ x) where
  high_letter : letter x ≡ false
  high_letter =
      rw (le-leb 65 x (omega arith), lt-leb x 90 (omega arith), le-leb 97 x (omega arith), lt-leb x 122 (omega arith))

  high_digit : digit x ≡ false
  high_digit = rw (lt-leb x 57 (omega arith)) (and-false (leb 48 x))

  high_atom : belongs Atom x ≡ true
  unfolding belongs
  high_atom = rw (le-leb 128 x h, high_letter, high_digit) (or-true (among signs x))

  pub high_label : belongs Label x ≡ false
  unfolding belongs
  high_label = rw (high_letter, high_digit, ne_eqb x 45 (omega arith))

near_atom : {x y : ℕ} → Near x y → belongs Atom y ≡ belongs Atom x
unfolding belongs
near_atom equal = refl
near_atom (letters {x} h k) = rw (small_letter x h k, capital_letter x h k)
near_atom (high {x} {y} h k l) = high_atom y k ∙ sym (high_atom x h)

pub near_label : {x y : ℕ} → Near x y → belongs Label y ≡ belongs Label x
unfolding belongs
near_label equal = refl
near_label (letters {x} h k) = rw (small_letter x h k, capital_letter x h k)
near_label (high {x} {y} h k l) = high_label y k ∙ sym (high_label x h)

-- pieces that are alike one by one
data AlikeAll : List (List ℕ) → List (List ℕ) → Type 0 where
  no_piece : AlikeAll [] []
  a_piece : {s t : List ℕ} {ps qs : List (List ℕ)} → Alike s t → AlikeAll ps qs → AlikeAll (s ∷ ps) (t ∷ qs)

all_every : (test : List ℕ → Bool) → ((s t : List ℕ) → Alike s t → test t ≡ test s) → {ps qs : List (List ℕ)} → AlikeAll ps qs → every test qs ≡ every test ps
unfolding every
all_every test keeps no_piece = refl
all_every test keeps (a_piece {s} {t} a r) = rw (keeps s t a, all_every test keeps r)

all_first : {x y : ℕ} {ps qs : List (List ℕ)} → Near x y → AlikeAll ps qs → AlikeAll (on_first x ps) (on_first y qs)
unfolding on_first
all_first n no_piece = a_piece (one n nothing) no_piece
all_first n (a_piece a r) = a_piece (one n a) r

module _ (d : ℕ) (l : d < 65) where
  pub alike_before : {s t : List ℕ} → Alike s t → Alike (before d s) (before d t)
  unfolding before
  alike_before nothing = nothing
  alike_before (one {x} {y} n a) =
      by_test (eqb x d)
      (λ e. rw (before, before, near_sign d l n, e) nothing)
      (λ e. rw (before, before, near_sign d l n, e) (one n (alike_before a)))

  alike_behind : {s t : List ℕ} → Alike s t → Alike (behind d s) (behind d t)
  unfolding behind
  alike_behind nothing = nothing
  alike_behind (one {x} {y} n a) =
      by_test (eqb x d)
      (λ e. rw (behind, behind, near_sign d l n, e) a)
      (λ e. rw (behind, behind, near_sign d l n, e) (alike_behind a))

  alike_pieces : {s t : List ℕ} → Alike s t → AlikeAll (pieces d s) (pieces d t)
  unfolding pieces
  alike_pieces nothing = a_piece nothing no_piece
  alike_pieces (one {x} {y} n a) =
      by_test (eqb x d)
      (λ e. rw (pieces, pieces, near_sign d l n, e) (a_piece nothing (alike_pieces a)))
      (λ e. rw (pieces, pieces, near_sign d l n, e) (all_first n (alike_pieces a)))

atom_alike : {s t : List ℕ} → Alike s t → atom t ≡ atom s
unfolding atom
atom_alike a = rw (alike_length a, alike_every (belongs Atom) (λ x y n. near_atom n) a)

label_alike : {s t : List ℕ} → Alike s t → ascii_label t ≡ ascii_label s
unfolding ascii_label free_ends
label_alike {s} {t} a =
    rw (
      alike_length a,
      alike_every (belongs Label) (λ x y n. near_label n) a,
      near_sign 45 (omega arith) (alike_at a 0),
      near_sign 45 (omega arith) (alike_at a (length s - 1)),
    )

pub local_alike : {s t : List ℕ} → Alike s t → local_part t ≡ local_part s
unfolding local_part
local_alike a = rw (alike_length a, all_every atom (λ p q b. atom_alike b) (alike_pieces 46 (omega arith) a))

domain_alike : {s t : List ℕ} → Alike s t → ascii_domain t ≡ ascii_domain s
unfolding ascii_domain
domain_alike a = all_every ascii_label (λ p q b. label_alike b) (alike_pieces 46 (omega arith) a)

pub plain_alike : {s t : List ℕ} → Alike s t → ascii_plain t ≡ ascii_plain s
unfolding ascii_plain
plain_alike a =
    rw (alike_length a, local_alike (alike_before 64 (omega arith) a), domain_alike (alike_behind 64 (omega arith) a))
