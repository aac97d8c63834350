-- The count of a list's addresses.
--     counted              n addresses and those that follow
--     Counting s n here    the count of all comes to n and what is left from a cursor on
--     counting_begin .. counting_unread   the loop's steps
-- Assumes nothing.
use Prim.Native.Nat.{ℕ, ◌+◌, ◌≤◌}
use mathlib.Core.Path.{◌≡◌, refl, sym, ap, ◌∙◌}
use mathlib.Core.List.{List, ◌∷◌}
use Rattle.std.specs.Prelude.{Option, Some, None}
use native.Mathlib.Omega.{arith}
use native.Mathlib.Nat.{zero-add, add-zero}
use borrow.Author.Rules.{rules}
use lib.ListN.{length}
use Rattle.octets.specs.Options.{in_front}
use Rattle.addresslist.specs.List.{addresses}
use Rattle.addresslist.specs.Answers.{between, beginning, left, Hands, counted_of}
use Rattle.addresslist.specs.declared.ListCursor.{ListCursor}
use Rattle.addresslist.specs.declared.NextAddress.{NextAddress}
use Rattle.addresslist.specs.declared.NextAddress.TheVariants.{Address, End, Unreadable}
use Rattle.addresslist.proofs.Handing.{left_beginning, hand_gives, hand_later, hand_within, hand_less, hand_end, hand_unread}

unfoldable pub counted : ℕ → Option (List (List ℕ)) → Option ℕ
counted n None = None
counted n (Some rest) = Some (n + length rest)

from_none : (o : Option (List (List ℕ))) → counted_of o ≡ counted 0 o
unfolding counted_of counted
from_none None = refl
from_none (Some rest) = ap Some (sym (zero-add (length rest)))

one_more : (n : ℕ) (a : List ℕ) (o : Option (List (List ℕ))) → counted n (in_front a o) ≡ counted (n + 1) o
unfolding counted in_front
one_more n a None = refl
one_more n a (Some rest) = let e : n + length (a ∷ rest) ≡ (n + 1) + length rest = omega arith in ap Some e

pub record Counting (s : List ℕ) (n : ℕ) (here : ListCursor) : Type 0 where
  pub so_far : counted_of (addresses s) ≡ counted n (left s here)
  pub few : n ≤ here.at
  pub upto : here.at ≤ length s

pub counting_begin : (s : List ℕ) (here : ListCursor) → here ≡ beginning → Counting s 0 here
counting_begin s here e =
    let z : here.at ≡ 0 = ap (λ (c : ListCursor). c.at) e in
    record { so_far = from_none (addresses s) ∙ ap (counted 0) (sym (left_beginning s here e)); few = omega arith; upto = omega arith }

module _ (s : List ℕ) (n : ℕ) (here : ListCursor) (k : NextAddress) (h : Counting s n here) (p : Hands s here k) where
  pub counting_on : (from to : ℕ) (next : ListCursor) → k ≡ Address from to next → Counting s (n + 1) next
  counting_on from to next q =
      record {
        so_far = h.so_far ∙ ap (counted n) (hand_gives s here k p from to next q) ∙ one_more n (between s from to) (left s next);
        few = omega (arith, hand_later s here k p from to next q);
        upto = hand_within s here k p from to next q;
      }

  pub counting_room : (from to : ℕ) (next : ListCursor) → k ≡ Address from to next → n + 1 ≤ length s
  counting_room from to next q = omega (arith, hand_later s here k p from to next q, hand_within s here k p from to next q)

  pub counting_end : k ≡ End → Some n ≡ counted_of (addresses s)
  unfolding counted
  counting_end q = sym (h.so_far ∙ rw (hand_end s here k p q, add-zero))

  pub counting_unread : k ≡ Unreadable → None ≡ counted_of (addresses s)
  unfolding counted
  counting_unread q = sym (h.so_far ∙ rw (hand_unread s here k p q))

pub ruleset counting = (counting_begin, counting_on, counting_room, hand_less, counting_end, counting_unread, rules)
