-- The one address of a list that has no other: by the first two answers of `next_address`.
--     lone_one .. lone_cut      there is a first address
--     lone_none, lone_unread    there is none
-- Assumes nothing.
use Prim.Native.Nat.{ℕ}
use mathlib.Core.Path.{◌≡◌, sym, ap, ◌∙◌}
use mathlib.Core.List.{List, []}
use Rattle.std.specs.Prelude.{Some, None}
use borrow.Author.Rules.{rules}
use Rattle.octets.specs.Options.{in_front, only_one, or_else}
use Rattle.octets.proofs.Options.{only_two}
use Rattle.addresslist.specs.List.{addresses}
use Rattle.addresslist.specs.Answers.{between, beginning, left, Hands, only_in}
use Rattle.addresslist.specs.declared.ListCursor.{ListCursor}
use Rattle.addresslist.specs.declared.NextAddress.{NextAddress}
use Rattle.addresslist.specs.declared.NextAddress.TheVariants.{Address, End, Unreadable}
use Rattle.addresslist.proofs.Handing.{left_beginning, hand_gives, hand_long, hand_upto, hand_end, hand_unread}

module _ (s : List ℕ) (here : ListCursor) (b : here ≡ beginning) (k : NextAddress) (p : Hands s here k) where
  all : only_one (or_else [] (left s here)) ≡ only_one (or_else [] (addresses s))
  all = ap (λ o. only_one (or_else [] o)) (left_beginning s here b)

  pub lone_none : k ≡ End → only_in s None ≡ only_one (or_else [] (addresses s))
  unfolding only_one or_else only_in
  lone_none q = rw (hand_end s here k p q) at all

  pub lone_unread : k ≡ Unreadable → only_in s None ≡ only_one (or_else [] (addresses s))
  unfolding only_one or_else only_in
  lone_unread q = rw (hand_unread s here k p q) at all

  module _ (from to : ℕ) (next : ListCursor) (q : k ≡ Address from to next) (j : NextAddress) (r : Hands s next j) where
    first : only_one (or_else [] (in_front (between s from to) (left s next))) ≡ only_one (or_else [] (addresses s))
    first = rw (hand_gives s here k p from to next q) at all

    pub lone_one : j ≡ End → only_in s (Some (record { from = from; to = to })) ≡ only_one (or_else [] (addresses s))
    unfolding only_one or_else only_in in_front
    lone_one e = rw (hand_end s next j r e) at first

    pub lone_cut : j ≡ Unreadable → only_in s None ≡ only_one (or_else [] (addresses s))
    unfolding only_one or_else only_in in_front
    lone_cut e = rw (hand_unread s next j r e) at first

    pub lone_two : (from' to' : ℕ) (later : ListCursor) → j ≡ Address from' to' later → only_in s None ≡ only_one (or_else [] (addresses s))
    unfolding only_in
    lone_two from' to' later e =
        sym (only_two (between s from to) (between s from' to') (left s later)) ∙ rw (hand_gives s next j r from' to' later e) at first

pub ruleset alone = (lone_one, lone_two, lone_cut, lone_none, lone_unread, hand_long, hand_upto, rules)
