-- The two sides of an address, as callers ask for them. ("@" is 64, a dot 46.)
--     Sides s, sides     of a plain address with labels in ASCII: it is not too long, and has a local part and a domain
--     local_filled       a local part is not empty
--     local_most         and within its limit
--     local_octets       and has the octets of atoms, and dots
-- Assumes nothing.
use Prim.Native.Nat.{ℕ, ◌≤◌}
use mathlib.Core.Path.{◌≡◌}
use mathlib.Core.Bool.{true, ◌&&◌, ◌||◌}
use mathlib.Core.List.{List}
use borrow.Author.Tests.{leb-true}
use lib.Dec.{leb, eqb}
use lib.ListN.{length}
use Rattle.octets.specs.Tests.{every, one_to}
use Rattle.octets.proofs.Tests.{and_left, and_right}
use Rattle.runs.specs.Runs.{belongs}
use Rattle.runs.specs.declared.Class.TheVariants.{Atom}
use Rattle.pieces.specs.Pieces.{before, behind}
use Rattle.pieces.proofs.Joined.{cut_octets}
use Rattle.asciiaddress.specs.Ascii.{longest_local, local_part, ascii_domain, ascii_plain}
use Rattle.asciiaddress.proofs.Atoms.{atoms}

pub record Sides (s : List ℕ) : Type 0 where
  pub short : length s ≤ 254
  pub left : local_part (before 64 s) ≡ true
  pub right : ascii_domain (behind 64 s) ≡ true

pub sides : (s : List ℕ) → ascii_plain s ≡ true → Sides s
unfolding ascii_plain
sides s p =
    let both : (leb (length s) 254 && local_part (before 64 s)) ≡ true = and_left _ (ascii_domain (behind 64 s)) p in
    record {
      short = leb-true (length s) 254 (and_left (leb (length s) 254) _ both);
      left = and_right (leb (length s) 254) _ both;
      right = and_right (leb (length s) 254 && local_part (before 64 s)) _ p;
    }

module _ (s : List ℕ) (e : local_part s ≡ true) where
  pub local_filled : 1 ≤ length s
  unfolding local_part
  local_filled = leb-true 1 (length s) (and_left (leb 1 (length s)) _ (and_left (one_to longest_local (length s)) _ e))

  pub local_most : length s ≤ 64
  unfolding local_part
  local_most = leb-true (length s) 64 (and_right (leb 1 (length s)) _ (and_left (one_to longest_local (length s)) _ e))

  pub local_octets : every (λ x. belongs Atom x || eqb x 46) s ≡ true
  unfolding local_part
  local_octets = cut_octets atoms s (and_right (one_to longest_local (length s)) _ e)
