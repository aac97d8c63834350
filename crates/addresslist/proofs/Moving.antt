-- Cursors: what one token brings, and what the loop knows that looks for the next address.
--     Goes s c next                what a token brings that is no address
--     move_hand .. move_unread     one token from a cursor on
--     Nears s c here               the list gives the same from both cursors, and the second is not before the first
--     near_begin .. near_less      the loop's steps
-- Assumes nothing.
use Prim.Native.Nat.{ℕ, ◌-◌, ◌<◌, ◌≤◌}
use mathlib.Core.Path.{◌≡◌, refl, sym, ap, ◌∙◌}
use mathlib.Core.Bool.{Bool, true, false}
use mathlib.Core.List.{List, []}
use Rattle.std.specs.Prelude.{Option, Some, None}
use native.Mathlib.Omega.{arith}
use borrow.Author.Rules.{rules}
use lib.ListN.{length, drop}
use Rattle.grammar.specs.Grammar.{after_address, after, may_end}
use Rattle.addresslist.specs.List.{address, other, first_token}
use Rattle.addresslist.specs.Answers.{between, found_in, Inside, left, Gives}
use Rattle.grammar.specs.declared.Sort.{Sort}
use Rattle.addresslist.specs.declared.token.TokenAt.{TokenAt}
use Rattle.addresslist.specs.declared.token.TokenAt.TheVariants.{Address as AddressAt, Other as OtherAt, End as Over, Unreadable as Unfound}
use Rattle.grammar.specs.declared.Stage.{Stage}
use Rattle.addresslist.specs.declared.ListCursor.{ListCursor}
use Rattle.addresslist.proofs.Listing.{stands, listed_address, listed_address_wrong, listed_other, listed_other_wrong, listed_end, listed_unread}

-- The next cursor lies behind this one, and s gives the same from either.
pub record Goes (s : List ℕ) (c next : ListCursor) : Type 0 where
  pub gives : left s c ≡ left s next
  pub behind : c.at < next.at
  pub upto : next.at ≤ length s

module _ (s : List ℕ) (c : ListCursor) (g : TokenAt) (e : found_in s g ≡ first_token (drop c.at s)) where
  found : (k : TokenAt) → g ≡ k → first_token (drop c.at s) ≡ found_in s k
  found k q = sym e ∙ ap (found_in s) q

  module _ (from to : ℕ) (q : g ≡ AddressAt from to) (r : Option (Stage × Bool)) (p : r ≡ after_address c.stage c.inside) where
    first : first_token (drop c.at s) ≡ address (between s from to) (drop to s)
    unfolding found_in
    first = found (AddressAt from to) q

    pub move_hand :
        (next : Stage) (inner : Bool) → Inside s c.at g → r ≡ Some (next, inner)
        → Gives s c from to (record { at = to; stage = next; inside = inner })
    unfolding left
    move_hand next inner i t =
        let h : Inside s c.at (AddressAt from to) = rw q at i in
        record {
          gives = listed_address c.stage c.inside (drop c.at s) (between s from to) (drop to s) first next inner (sym p ∙ t);
          whole = (stands (drop c.at s) (address (between s from to) (drop to s)) first).1;
          behind = h.0;
          long = h.1;
          upto = h.2;
          goes_on = refl;
        }

    pub move_hand_wrong : r ≡ None → left s c ≡ None
    unfolding left
    move_hand_wrong t = listed_address_wrong c.stage c.inside (drop c.at s) (between s from to) (drop to s) first (sym p ∙ t)

  module _ (sort : Sort) (to : ℕ) (q : g ≡ OtherAt sort to) (r : Option (Stage × Bool)) (p : r ≡ after c.stage c.inside sort) where
    second : first_token (drop c.at s) ≡ other sort (drop to s)
    unfolding found_in
    second = found (OtherAt sort to) q

    pub move_on :
        (next : Stage) (inner : Bool) → Inside s c.at g → r ≡ Some (next, inner)
        → Goes s c (record { at = to; stage = next; inside = inner })
    unfolding left
    move_on next inner i t =
        let h : Inside s c.at (OtherAt sort to) = rw q at i in
        record {
          gives = listed_other c.stage c.inside (drop c.at s) sort (drop to s) second next inner (sym p ∙ t);
          behind = h.0;
          upto = h.1;
        }

    pub move_on_wrong : r ≡ None → left s c ≡ None
    unfolding left
    move_on_wrong t = listed_other_wrong c.stage c.inside (drop c.at s) sort (drop to s) second (sym p ∙ t)

  module _ (q : g ≡ Over) (b : Bool) (p : b ≡ may_end c.stage c.inside) where
    pub move_end : b ≡ true → left s c ≡ Some []
    unfolding left found_in
    move_end t = listed_end c.stage c.inside (drop c.at s) true (found Over q) (sym p ∙ t)

    pub move_cut : b ≡ false → left s c ≡ None
    unfolding left found_in
    move_cut t = listed_end c.stage c.inside (drop c.at s) false (found Over q) (sym p ∙ t)

  pub move_unread : g ≡ Unfound → left s c ≡ None
  unfolding left found_in
  move_unread q = listed_unread c.stage c.inside (drop c.at s) (found Unfound q)

pub record Nears (s : List ℕ) (c here : ListCursor) : Type 0 where
  pub same : left s c ≡ left s here
  pub behind : c.at ≤ here.at

pub near_begin : (s : List ℕ) (c : ListCursor) → Nears s c c
near_begin s c = record { same = refl; behind = omega arith }

pub near_gives :
    (s : List ℕ) (c here : ListCursor) (from to : ℕ) (next : ListCursor) → Nears s c here → Gives s here from to next → Gives s c from to next
near_gives s c here from to next n h =
    record {
      gives = n.same ∙ h.gives;
      whole = h.whole;
      behind = omega arith;
      long = h.long;
      upto = h.upto;
      goes_on = h.goes_on;
    }

module _ (s : List ℕ) (here next : ListCursor) (on : Goes s here next) where
  pub near_on : (c : ListCursor) → Nears s c here → Nears s c next
  near_on c n = record { same = n.same ∙ on.gives; behind = omega (arith, on.behind) }

  pub near_less : length s - next.at < length s - here.at
  near_less = omega (arith, on.behind, on.upto)

pub ruleset nearing = (near_begin, near_on, near_less, move_hand_wrong, move_on, move_on_wrong, move_end, move_cut, move_unread, rules)
