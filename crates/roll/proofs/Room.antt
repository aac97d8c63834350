-- How much room addresses take in a roll.
--     rolled_total                a roll has its addresses' octets, and one more for each
--     rolled_room, listed_room    the roll of a list has at most one octet more than the list
--     lists_room                  of several lists: each adds at most its octets and one
--     rolled_least, rolled_most   a plain address takes 4 to 255 octets
--     roomy_front                 where there is room for addresses, there is for the first of them, also in other memory of that length
-- Assumes nothing.
use Prim.Native.Nat.{ℕ, ◌+◌, ◌*◌, ◌≤◌}
use mathlib.Core.Path.{◌≡◌, refl, ap, ◌∙◌}
use mathlib.Core.Bool.{true}
use mathlib.Core.List.{List, [], ◌∷◌, ◌++◌}
use Rattle.std.specs.Prelude.{Option, Some, None}
use native.Mathlib.Omega.{arith}
use lib.ListN.{length, length-append}
use Rattle.octets.specs.Options.{total}
use Rattle.octets.specs.Tests.{every}
use Rattle.octets.proofs.Tests.{and_left, and_right}
use Rattle.address.specs.Address.{plain, is_canonical}
use Rattle.address.proofs.Spelling.{own_most}
use Rattle.address.proofs.Sides.{plain_least}
use Rattle.addresslist.specs.List.{addresses}
use Rattle.addresslist.proofs.Room.{addresses_total, total_room}
use Rattle.roll.specs.Roll.{rolled, listed_in}
use Rattle.roll.specs.Growing.{Roomy}
use Rattle.roll.proofs.Rolls.{rolled_none, rolled_length, rolled_append_length, listed_readable, listed_unreadable}

pub rolled_total : (list : List (List ℕ)) → length (rolled list) ≡ addresses_total list
unfolding total
rolled_total [] = ap length rolled_none
rolled_total (a ∷ rest) = rolled_length a rest ∙ rw (rolled_total rest)

pub rolled_room : (s : List ℕ) (list : List (List ℕ)) → addresses s ≡ Some list → length (rolled list) ≤ length s + 1
rolled_room s list e = omega (arith, rolled_total list, total_room s list e)

pub listed_room : (s : List ℕ) → length (rolled (listed_in s)) ≤ length s + 1
listed_room s = go (addresses s) refl
  where
    go : (o : Option (List (List ℕ))) → addresses s ≡ o → length (rolled (listed_in s)) ≤ length s + 1
    go None e = rw (listed_unreadable s e) (omega (arith, ap length rolled_none))
    go (Some list) e = rw (listed_readable s list e) (rolled_room s list e)

-- the addresses of a list s in front of others that take n octets
pub lists_room :
    (s : List ℕ) (others : List (List ℕ)) (n : ℕ) → length (rolled others) ≤ n → length (rolled (listed_in s ++ others)) ≤ length s + 1 + n
lists_room s others n h = omega (arith, listed_room s, rolled_append_length (listed_in s) others)

pub rolled_least : (list : List (List ℕ)) → every plain list ≡ true → 4 * length list ≤ length (rolled list)
unfolding every
rolled_least [] e = omega arith
rolled_least (a ∷ rest) e =
    omega (
      arith,
      rolled_length a rest,
      plain_least a (and_left (plain a) (every plain rest) e),
      rolled_least rest (and_right (plain a) (every plain rest) e),
    )

pub rolled_most : (list : List (List ℕ)) → every is_canonical list ≡ true → length (rolled list) ≤ 255 * length list
unfolding every
rolled_most [] e = omega (arith, ap length rolled_none)
rolled_most (a ∷ rest) e =
    omega (
      arith,
      rolled_length a rest,
      own_most a (and_left (is_canonical a) (every is_canonical rest) e),
      rolled_most rest (and_right (is_canonical a) (every is_canonical rest) e),
    )

pub roomy_front :
    (xs ys : List (List ℕ)) (roll tags places rolls numbers spots : List ℕ) → Roomy (xs ++ ys) roll tags places → length rolls ≡ length roll
    → length numbers ≡ length tags → length spots ≡ length places → Roomy xs rolls numbers spots
roomy_front xs ys roll tags places rolls numbers spots h l t p =
    record {
      octets = omega (arith, h.octets, rolled_append_length xs ys);
      short = omega (arith, h.short);
      numbers = omega (arith, h.numbers, length-append xs ys);
      spots = omega (arith, h.spots, length-append xs ys);
    }
