-- How long a plain address can be as it stands: at most four times as long as its form.
--     plain_long
-- Assumes nothing.
use Prim.Native.Nat.{ℕ, ◌*◌, ◌≤◌}
use mathlib.Core.Path.{◌≡◌, ap}
use mathlib.Core.Bool.{true}
use mathlib.Core.List.{List, [], ◌∷◌, map}
use native.Mathlib.Omega.{arith}
use lib.ListN.{length, length-append}
use Rattle.octets.specs.Tests.{every}
use Rattle.octets.proofs.Tests.{and_left, and_right}
use Rattle.utf8.specs.Lowering.{lower_text}
use Rattle.utf8.proofs.Alike.{alike_length}
use Rattle.utf8.proofs.Lowering.{alike_text}
use Rattle.pieces.specs.Pieces.{pieces, before, behind, following, joined}
use Rattle.pieces.proofs.Pieces.{joined_pieces}
use Rattle.labels.specs.Labels.{label, labelled}
use Rattle.labels.proofs.Growing.{label_long}
use Rattle.address.specs.Address.{domain, domain_form, address_form, plain}
use Rattle.address.proofs.Spelling.{short, right}
use Rattle.address.proofs.Sides.{plain_join}

following_long : (ps : List (List ℕ)) → every label ps ≡ true → length (following 46 ps) ≤ 4 * length (following 46 (map labelled ps))
unfolding following every
following_long [] e = omega arith
following_long (p ∷ ps) e =
    simp length-append (omega (arith, label_long p (and_left (label p) (every label ps) e), following_long ps (and_right (label p) (every label ps) e)))

joined_long : (ps : List (List ℕ)) → every label ps ≡ true → length (joined 46 ps) ≤ 4 * length (joined 46 (map labelled ps))
unfolding joined every
joined_long [] e = omega arith
joined_long (p ∷ ps) e =
    simp length-append (omega (arith, label_long p (and_left (label p) (every label ps) e), following_long ps (and_right (label p) (every label ps) e)))

domain_long : (d : List ℕ) → domain d ≡ true → length d ≤ 4 * length (domain_form d)
unfolding domain domain_form
domain_long d e = omega (arith, joined_long (pieces 46 d) e, ap length (joined_pieces 46 d))

pub plain_long : (s : List ℕ) → plain s ≡ true → length s ≤ 1016
unfolding address_form
plain_long s p =
    omega (
      arith,
      ap length (plain_join s p),
      length-append (before 64 s) (64 ∷ behind 64 s),
      domain_long (behind 64 s) (right s p),
      alike_length (alike_text (before 64 s)),
      length-append (lower_text (before 64 s)) (64 ∷ domain_form (behind 64 s)),
      short s p,
    )
