-- Room beside those that are known to be new, by the first of some addresses.
--     beside_over      no address is left
--     beside_known     one that has an entry or is known
--     beside_new       one that is new is known behind it
--     beside_one       the two in one
--     beside_full      one that is new where those that are known take all free slots
--     beside_message   beside none, for the addresses of a message
-- Assumes nothing.
use Prim.Native.Nat.{ℕ, ◌+◌, ◌≤◌}
use mathlib.Core.Path.{◌≡◌}
use mathlib.Core.Bool.{true, false, ◌||◌}
use mathlib.Core.List.{List, [], ◌∷◌, ◌++◌}
use native.Mathlib.Omega.{arith}
use borrow.Author.Tests.{le-leb, lt-leb, not-true, not-false}
use lib.ListN.{length, length-append}
use Rattle.octets.proofs.Tests.{by_test}
use Rattle.addresslist.specs.List.{among}
use Rattle.table.specs.Table.{found, is_at, free_count}
use Rattle.update.specs.Message.{Message, newcomers, addresses_of, has_room}
use Rattle.update.proofs.Room.{newcomer_not, newcomer_one}
use Rattle.room.specs.Room.{is_new, with_new, room_beside}

module _ (t : List ℕ) (known : List (List ℕ)) where
  pub beside_over : length known ≤ free_count t → room_beside t known [] ≡ true
  unfolding room_beside newcomers
  beside_over h = le-leb (length known + 0) (free_count t) (omega arith)

  module _ (a : List ℕ) (rest : List (List ℕ)) where
    pub beside_known : is_new t known a ≡ false → room_beside t known (a ∷ rest) ≡ room_beside t known rest
    unfolding is_new room_beside
    beside_known e = rw (newcomer_not t known a rest (not-false (is_at (found t a) || among a known) e))

    module _ (e : is_new t known a ≡ true) where
      behind : List (List ℕ)
      behind = newcomers t (known ++ (a ∷ [])) rest

      one : newcomers t known (a ∷ rest) ≡ a ∷ behind
      unfolding is_new behind
      one = newcomer_one t known a rest (not-true (is_at (found t a) || among a known) e)

      longer : length known + length (newcomers t known (a ∷ rest)) ≡ length (known ++ (a ∷ [])) + length behind
      longer = rw one (omega (arith, length-append known (a ∷ [])))

      pub beside_new : room_beside t known (a ∷ rest) ≡ room_beside t (known ++ (a ∷ [])) rest
      unfolding room_beside behind
      beside_new = rw longer

      pub beside_full : length known ≡ free_count t → room_beside t known (a ∷ rest) ≡ false
      unfolding room_beside
      beside_full f =
          lt-leb (length known + length (newcomers t known (a ∷ rest))) (free_count t)
          (omega (arith, longer, length-append known (a ∷ []), f))

    pub beside_one : room_beside t known (a ∷ rest) ≡ room_beside t (with_new t known a) rest
    unfolding with_new
    beside_one = by_test (is_new t known a) (λ e. rw (with_new, e) (beside_new e)) (λ e. rw (with_new, e) (beside_known e))

pub beside_message : (t : List ℕ) (m : Message) → room_beside t [] (addresses_of m) ≡ has_room t m
unfolding room_beside has_room
beside_message t m =
    let z : 0 + length (newcomers t [] (addresses_of m)) ≡ length (newcomers t [] (addresses_of m)) = omega arith in
    rw z
