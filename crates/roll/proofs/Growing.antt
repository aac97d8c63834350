-- A roll that is kept in lent memory, and what a caller knows of it.
--     kept_begin, begin_none       the memory has an empty roll, and its index, whatever else it holds
--     kept_within .. kept_places   how far roll and index go
--     kept_index, kept_list        the parts of the memory that are roll and index
--     adds_one                     one address more
--     grew_none                    nothing more
-- Assumes nothing.
use Prim.Native.Nat.{ℕ, ◌-◌, ◌<◌, ◌≤◌}
use mathlib.Core.Path.{◌≡◌, sym, ap, ◌∙◌}
use mathlib.Core.Bool.{true}
use mathlib.Core.List.{List, [], ◌∷◌, append-nil}
use native.Mathlib.Omega.{arith}
use native.Mathlib.Nat.{sub-zero}
use lib.ListN.{length, take, drop, length-append, length-take}
use Rattle.octets.specs.Tests.{every}
use Rattle.address.specs.Address.{is_canonical}
use Rattle.address.proofs.Spelling.{canonical_plain, own_most}
use Rattle.roll.specs.Roll.{unrolled}
use Rattle.roll.specs.Index.{tags_of, places_from, Indexed}
use Rattle.roll.specs.Growing.{in_roll, Kept, Adds, Grew}
use Rattle.roll.specs.declared.Rolled.{Rolled}
use Rattle.roll.proofs.Rolls.{entry_length, rolled_none, rolled_append_length, rolled_alone, unrolled_none}
use Rattle.roll.proofs.Index.{tags_length, places_length}
use Rattle.roll.proofs.Room.{rolled_most}

pub begin_none : (roll : List ℕ) (at : Rolled) → at.end ≡ 0 → in_roll at roll ≡ []
begin_none roll at e = rw e unrolled_none

pub kept_begin : (roll tags places : List ℕ) (at : Rolled) → at.end ≡ 0 → at.many ≡ 0 → Kept roll tags places at
unfolding tags_of places_from every
kept_begin roll tags places at e n =
    record {
      is = rw (begin_none roll at e, e, rolled_none);
      long = rw (begin_none roll at e) (e ∙ ap length (sym rolled_none));
      count = rw (begin_none roll at e) n;
      tagged = rw (begin_none roll at e, n);
      placed = rw (begin_none roll at e, n);
      plainly = rw (begin_none roll at e);
    }

module _ (roll tags places : List ℕ) (at : Rolled) (h : Kept roll tags places at) where
  pub kept_within : at.end ≤ length roll
  kept_within = omega (arith, h.long, ap length h.is, length-take at.end roll)

  pub kept_tags : at.many ≤ length tags
  kept_tags = omega (arith, h.count, ap length h.tagged, tags_length (in_roll at roll), length-take at.many tags)

  pub kept_places : at.many ≤ length places
  kept_places = omega (arith, h.count, ap length h.placed, places_length 0 (in_roll at roll), length-take at.many places)

  pub kept_list : unrolled (take (at.end - 0) (drop 0 roll)) ≡ in_roll at roll
  kept_list = rw sub-zero

  pub kept_index : Indexed (take (at.end - 0) (drop 0 roll)) (take (at.many - 0) (drop 0 tags)) (take (at.many - 0) (drop 0 places))
  kept_index = record { tagged = simp sub-zero h.tagged; placed = simp sub-zero h.placed }

  -- there is room for another of as many canonical addresses as there can be slots
  pub adds_one :
      every is_canonical (in_roll at roll) ≡ true → (a : List ℕ) → is_canonical a ≡ true → at.many < 256 → length roll ≡ 65536
      → 256 ≤ length tags → 256 ≤ length places → Adds roll tags places at (a ∷ [])
  unfolding every
  adds_one o a c n l t s =
      record {
        kept = h;
        plainly = rw (canonical_plain a c);
        roomy =
            record {
              octets =
                  omega (
                    arith,
                    rolled_most (in_roll at roll) o,
                    h.long,
                    h.count,
                    rolled_append_length (in_roll at roll) (a ∷ []),
                    ap length (rolled_alone a),
                    entry_length a,
                    own_most a c,
                  );
              short = omega arith;
              numbers = omega (arith, h.count, length-append (in_roll at roll) (a ∷ []));
              spots = omega (arith, h.count, length-append (in_roll at roll) (a ∷ []));
            };
      }

pub grew_none : (roll : List ℕ) (at : Rolled) → Grew roll at [] roll at
grew_none roll at = record { grown = sym (append-nil (in_roll at roll)) }
