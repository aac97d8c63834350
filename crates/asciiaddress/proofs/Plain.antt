-- Plain addresses: the answers of the code, from the local part and the domain.
--     opens, is_part, part_is      where a local part ends
--     part_within, part_fits       where a local part ends, the text goes on
--     plain_long .. plain_none     the ways that the test can end
-- Assumes nothing.
use Rattle.std.specs.Prelude.{Option, Some, None}
use Prim.Native.Nat.{ℕ, ◌+◌, ◌<◌, ◌≤◌}
use mathlib.Core.Path.{◌≡◌, ◌∙◌}
use mathlib.Core.Bool.{Bool, true, false, ◌&&◌, and-false}
use mathlib.Core.List.{List}
use native.Mathlib.Omega.{arith}
use borrow.Author.Rules.{rules}
use borrow.Author.Tests.{le-leb, lt-leb, ltb-true, ltb-false}
use mir.Syntax.{w64}
use mir.Val.{Fits}
use lib.Dec.{ltb}
use lib.ListN.{length, drop}
use Rattle.octets.proofs.Lists.{drop_done}
use Rattle.octets.specs.Tests.{every}
use Rattle.octets.proofs.Tests.{by_test, and_left, and_right}
use Rattle.pieces.specs.Pieces.{pieces, before, behind}
use Rattle.asciiaddress.specs.Ascii.{local_part, ascii_label, ascii_domain, ascii_plain}
use Rattle.asciiaddress.specs.Answers.{local_of}
use Rattle.pieces.proofs.Pieces.{behind_drop}

pub plain_long : (s : List ℕ) → 254 < length s → false ≡ ascii_plain s
unfolding ascii_plain
plain_long s l = rw (lt-leb (length s) 254 l)

module _ (s : List ℕ) where
  -- what stands before the first "@" ends there and is a local part
  abbrev pub opens : Bool
  opens = ltb (length (before 64 s)) (length s) && local_part (before 64 s)

  pub is_part : opens ≡ true → local_of s ≡ Some (length (before 64 s))
  unfolding local_of
  is_part e = rw e

  is_none : opens ≡ false → local_of s ≡ None
  unfolding local_of
  is_none e = rw e

  -- no "@", no domain
  no_domain : length s ≤ length (before 64 s) → ascii_domain (behind 64 s) ≡ false
  unfolding ascii_domain pieces every ascii_label
  no_domain l = rw (behind_drop, drop_done s (length (before 64 s) + 1) (omega arith))

  module _ (g : Option ℕ) (e : g ≡ local_of s) where
    pub part_is : (n : ℕ) → g ≡ Some n → (opens ≡ true) × (n ≡ length (before 64 s))
    part_is n p =
        by_test opens
        (λ t. (t, cc (is_part t)))
        (λ f. absurd (let z : ◌≡◌ {A = ℕ} 0 1 = cc (is_none f) in omega arith))

    pub part_within : (n : ℕ) → g ≡ Some n → n < length s
    part_within n p =
        let h : (opens ≡ true) × (n ≡ length (before 64 s)) = part_is n p in
        omega (arith, h.1, ltb-true (length (before 64 s)) (length s) (and_left (ltb (length (before 64 s)) (length s)) _ h.0))

    pub part_fits : (n : ℕ) → length s ≤ 254 → g ≡ Some n → Fits w64 (n + 1)
    part_fits n l p = omega (arith, part_within n p)

    pub plain_whole : (n : ℕ) (b : Bool) → length s ≤ 254 → g ≡ Some n → b ≡ ascii_domain (drop (n + 1) s) → b ≡ ascii_plain s
    unfolding ascii_plain
    plain_whole n b l p d =
        let h : (opens ≡ true) × (n ≡ length (before 64 s)) = part_is n p in
        let good : local_part (before 64 s) ≡ true = and_right (ltb (length (before 64 s)) (length s)) _ h.0 in
        d ∙ rw (le-leb (length s) 254 l, good, behind_drop, h.1)

    pub plain_none : g ≡ None → false ≡ ascii_plain s
    unfolding ascii_plain
    plain_none p =
        by_test (local_part (before 64 s))
        (λ t.
        by_test (ltb (length (before 64 s)) (length s))
        (λ k. absurd (let z : ◌≡◌ {A = ℕ} 0 1 = cc (is_part (rw (k, t))) in omega arith))
        (λ k. rw (no_domain (ltb-false (length (before 64 s)) (length s) k), and-false)))
        (λ f. rw (f, and-false))

pub ruleset being_plain = (plain_long, part_fits, plain_whole, plain_none, rules)
