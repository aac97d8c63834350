-- What the readers of a slot answer.
--     address_read    the address
--     marked_read     whether it opens with the mark
--     behind_read     an area behind a length
-- Assumes nothing.
use Prim.Native.Nat.{ℕ, ◌+◌, ◌-◌, min}
use mathlib.Core.Path.{◌≡◌, sym, ◌∙◌}
use mathlib.Core.Bool.{Bool}
use mathlib.Core.List.{List, [], ◌∷◌}
use native.Mathlib.Omega.{arith}
use lib.Dec.{eqb}
use borrow.Author.Tests.{eqb-true}
use Rattle.std.specs.List.{starts_with}
use Rattle.octets.proofs.Tests.{by_test}
use lib.ListN.{length, take, drop}
use lib.Seq.{drop-drop}
use Rattle.octets.specs.Octets.{all_zero, same_octets}
use Rattle.heads.specs.Head.{address_length}
use Rattle.heads.proofs.Parts.{take_min, drop_min}
use Rattle.slots.specs.Slot.{slot_length, mark, address_room, address_of, marked}

pub address_read : (s : List ℕ) (n m : ℕ) → n ≡ address_length s → m ≡ min n address_room → take (40 + m - 40) (drop 40 s) ≡ address_of s
unfolding address_of
address_read s n m en em =
    let a : 40 + m - 40 ≡ m = omega arith in
    rw (a, em, en) (take_min (address_length s) address_room (drop 40 s))

eqb_flip : (x y : ℕ) → eqb x y ≡ eqb y x
eqb_flip x y =
    by_test (eqb x y)
    (λ e. rw (eqb-true x y e))
    (λ e. by_test (eqb y x) (λ f. rw (eqb-true y x f)) (λ f. e ∙ sym f))

-- the code tests the octets of the mark against those of the slot
pub marked_read : (s : List ℕ) → length s ≡ slot_length → starts_with eqb s mark ≡ marked s
unfolding marked same_octets
marked_read [] e = absurd (omega arith)
marked_read (x ∷ []) e = absurd (omega arith)
marked_read (x ∷ y ∷ s) e = rw (eqb_flip x 65, eqb_flip y 49)

pub behind_read : (s : List ℕ) (at room count n : ℕ) → n ≡ min count room
    → (b : Bool) → b ≡ all_zero (take (at + room - (at + n)) (drop (at + n) s)) → b ≡ all_zero (drop count (take room (drop at s)))
behind_read s at room count n e b eb =
    let a : at + room - (at + n) ≡ room - n = omega arith in
    eb ∙ rw (a, ← drop-drop n at s, e, drop_min count room (drop at s))
