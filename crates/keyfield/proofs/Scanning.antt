-- The pieces of a value, read in order. (`;` is 59.)
--     Scanning s at address preference     what is said comes to what the pieces from `at` on say behind the address and the preference
--     scan_begin .. scan_spoils            the loop's steps
-- Assumes nothing.
use Prim.Native.Nat.{ℕ, ◌+◌, ◌<◌, ◌≤◌}
use mathlib.Core.Path.{◌≡◌, refl, sym, ap, ◌∙◌}
use mathlib.Core.Logic.{⊎_elim}
use mathlib.Core.List.{List, [], ◌∷◌}
use Rattle.std.specs.Prelude.{Option, Some, None, Bool}
use native.Mathlib.Omega.{arith}
use borrow.Author.Rules.{rules}
use lib.ListN.{length}
use Rattle.octets.proofs.Lists.{lt_or_le}
use Rattle.pieces.specs.Pieces.{pieces}
use Rattle.pieces.proofs.Pieces.{pieces_first}
use Rattle.attributes.specs.Attribute.{attribute_of}
use Rattle.attributes.specs.Step.{step}
use Rattle.attributes.specs.Answers.{part, Within, FirstAt}
use Rattle.attributes.specs.Steps.{address_at, Stands, step_at, NextWithin, Steps}
use Rattle.attributes.specs.declared.Bounds.{Bounds}
use Rattle.attributes.specs.declared.NextPiece.{NextPiece}
use Rattle.attributes.specs.declared.NextPiece.TheVariants.{On, Last, Spoils}
use Rattle.attributes.proofs.Parts.{part_rest}
use Rattle.attributes.proofs.Cutting.{cut_pieces, cut_last}
use Rattle.keyfield.specs.Field.{said_from, said_of, said_with, if_last}
use Rattle.keyfield.specs.Answers.{whole_of, said_at, WholeWithin, Scans}
use Rattle.keyfield.specs.declared.Scanned.{Scanned}

pub record Scanning (s : List ℕ) (at : ℕ) (address : Option Bounds) (preference : Option Bool) : Type 0 where
  pub upto : at ≤ length s
  pub stands : Stands s address
  pub so_far : said_of s ≡ said_from (address_at s address) preference (pieces 59 (part s at (length s)))

pub scan_begin : (s : List ℕ) → Scanning s 0 None None
unfolding said_of address_at Stands
scan_begin s = record { upto = omega arith; stands = tt; so_far = rw (part_rest s 0) }

-- what has been read at the end is there
whole_said : (s : List ℕ) (address : Option Bounds) (preference : Option Bool) (v : Bounds)
    → said_at s (whole_of address preference v) ≡ said_with (address_at s address) preference (part s v.from v.to)
unfolding said_at whole_of said_with address_at
whole_said s None preference v = refl
whole_said s (Some at) preference v = refl

whole_there : (s : List ℕ) (address : Option Bounds) (preference : Option Bool) (v : Bounds)
    → Stands s address → Within s v.from v.to → WholeWithin s (whole_of address preference v)
unfolding WholeWithin whole_of Stands
whole_there s None preference v h w = tt
whole_there s (Some at) preference v h w = (h, w)

module _ (s : List ℕ) (at : ℕ) (address : Option Bounds) (preference : Option Bool) (h : Scanning s at address preference) where
  pub scan_left : Within s at (length s)
  scan_left = record { order = h.upto; upto = omega arith }

  pub scan_stands : Stands s address
  scan_stands = h.stands

  module _ (end : ℕ) (f : FirstAt s at (length s) 59 end) where
    pub scan_within : Within s at end
    scan_within = record { order = omega (arith, f.is); upto = f.upto }

    module _ (n : NextPiece) (t : Steps s n (step (address_at s address) preference (attribute_of (part s at end)))) where
      comes : (x : NextPiece) → n ≡ x → step (address_at s address) preference (attribute_of (part s at end)) ≡ step_at s x
      comes x e = sym t.is ∙ ap (step_at s) e

      -- a piece that spoils the field does so whatever follows
      spoilt : (rest : List (List ℕ)) → said_of s ≡ said_from (address_at s address) preference (part s at end ∷ rest) → n ≡ Spoils → Scans s None
      unfolding said_from step_at said_at WholeWithin
      spoilt rest q e =
          record { is = sym (q ∙ rw (said_from, comes Spoils e)); within = tt }

      module _ (l : end < length s) where
        -- a piece, and those behind it
        more : said_of s ≡ said_from (address_at s address) preference (part s at end ∷ pieces 59 (part s (end + 1) (length s)))
        more = h.so_far ∙ rw (cut_pieces s at (length s) 59 end scan_left f l)

        pub scan_next : (a : Option Bounds) (p : Option Bool) → n ≡ On a p → Scanning s (end + 1) a p
        unfolding said_from step_at NextWithin
        scan_next a p e =
            record { upto = omega arith; stands = rw e at t.within; so_far = more ∙ rw (said_from, comes (On a p) e) }

        pub scan_early : (v : Bounds) → n ≡ Last v → Scans s None
        unfolding said_from step_at said_at WholeWithin if_last
        scan_early v e =
            record { is = sym (more ∙ rw (said_from, comes (Last v) e, pieces_first 59 (part s (end + 1) (length s)))); within = tt }

      module _ (l : length s ≤ end) where
        -- the last piece
        alone : said_of s ≡ said_from (address_at s address) preference (part s at end ∷ [])
        alone = h.so_far ∙ rw (cut_last s at (length s) 59 end scan_left f l)

        pub scan_keyless : (a : Option Bounds) (p : Option Bool) → n ≡ On a p → Scans s None
        unfolding said_from step_at said_at WholeWithin
        scan_keyless a p e =
            record { is = sym (alone ∙ rw (said_from, comes (On a p) e)); within = tt }

        pub scan_last : (v : Bounds) (r : Option Scanned) → n ≡ Last v → r ≡ whole_of address preference v → Scans s r
        unfolding said_from step_at if_last NextWithin
        scan_last v r e q =
            record {
              is = ap (said_at s) q ∙ whole_said s address preference v ∙ sym (alone ∙ rw (said_from, comes (Last v) e));
              within = rw q (whole_there s address preference v h.stands (rw e at t.within));
            }

      pub scan_spoils : n ≡ Spoils → Scans s None
      scan_spoils e =
          ⊎_elim
          (λ (l : end < length s). spoilt (pieces 59 (part s (end + 1) (length s))) (more l) e)
          (λ (l : length s ≤ end). spoilt [] (alone l) e)
          (lt_or_le end (length s))

pub ruleset scanning = (scan_begin, scan_left, scan_stands, scan_within, scan_next, scan_early, scan_keyless, scan_last, scan_spoils, rules)
