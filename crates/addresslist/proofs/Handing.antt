-- What a caller's loop over `next_address` asks.
--     left_beginning           from the first cursor on a list gives all its addresses
--     hand_gives .. hand_plain    an address that is handed out: what is left, where it lies, that it is plain
--     hand_later, hand_less    the next cursor lies behind this one
--     hand_end, hand_unread    the end, and an unreadable list
-- Assumes nothing.
use Prim.Native.Nat.{ℕ, ◌-◌, ◌<◌, ◌≤◌}
use mathlib.Core.Path.{◌≡◌}
use mathlib.Core.Bool.{true}
use mathlib.Core.List.{List, []}
use Rattle.std.specs.Prelude.{Some, None}
use native.Mathlib.Omega.{arith}
use lib.ListN.{length}
use Rattle.octets.specs.Options.{in_front}
use Rattle.address.specs.Address.{plain}
use Rattle.addresslist.specs.List.{addresses}
use Rattle.addresslist.specs.Answers.{between, beginning, left, Gives, Hands}
use Rattle.addresslist.specs.declared.ListCursor.{ListCursor}
use Rattle.addresslist.specs.declared.NextAddress.{NextAddress}
use Rattle.addresslist.specs.declared.NextAddress.TheVariants.{Address, End, Unreadable}

pub left_beginning : (s : List ℕ) (c : ListCursor) → c ≡ beginning → left s c ≡ addresses s
unfolding left addresses
left_beginning s c e = rw e

module _ (s : List ℕ) (c : ListCursor) (k : NextAddress) (p : Hands s c k) where
  module _ (from to : ℕ) (next : ListCursor) (q : k ≡ Address from to next) where
    hand : Gives s c from to next
    hand = rw q at p

    pub hand_gives : left s c ≡ in_front (between s from to) (left s next)
    hand_gives = hand.gives

    pub hand_plain : plain (between s from to) ≡ true
    hand_plain = hand.whole

    pub hand_long : from < to
    hand_long = hand.long

    pub hand_from : from ≤ to
    hand_from = omega (arith, hand.long)

    pub hand_upto : to ≤ length s
    hand_upto = hand.upto

    pub hand_later : c.at < next.at
    hand_later = omega (arith, hand.behind, hand.long, hand.goes_on)

    pub hand_within : next.at ≤ length s
    hand_within = omega (arith, hand.upto, hand.goes_on)

    pub hand_less : length s - next.at < length s - c.at
    hand_less = omega (arith, hand_later, hand_within)

  pub hand_end : k ≡ End → left s c ≡ Some []
  hand_end q = rw q at p

  pub hand_unread : k ≡ Unreadable → left s c ≡ None
  hand_unread q = rw q at p
