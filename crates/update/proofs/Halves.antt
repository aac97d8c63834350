-- What a message leaves of an entry, whatever the entry holds. Three of the mistakes that C13 names are excluded by it.
--     keyless_direct                  U9: a mail without a key clears nothing
--     updated_gossip                  the sender's part leaves the gossip half
--     heard_seen, heard_direct        G8: gossip fills neither last seen nor the direct half
--     equal_replaces, equal_heard     U8, G7: an equal date replaces
--     heard_again                     G9: of two fields about one address the last stands
-- Assumes nothing.
use Prim.Native.Nat.{ℕ}
use mathlib.Core.Path.{◌≡◌, refl, sym, ap, ◌∙◌}
use mathlib.Core.Bool.{false}
use Rattle.std.specs.Prelude.{Option, Some, None}
use mathlib.Core.List.{List}
use native.Mathlib.Omega.{arith}
use borrow.Author.Tests.{le-ltb}
use Rattle.octets.proofs.Tests.{by_test}
use Rattle.heads.specs.Entry.{Direct, Gossip, Entry, seen_by, with_direct, with_gossip}
use Rattle.update.specs.Update.{Order, stays, Half, with_half, taking, above, the_direct, younger, updated, the_gossip, younger_gossip, heard}
use Rattle.update.proofs.Writing.{taking_stays, taking_takes, heard_older, heard_now}

-- a part that what comes in leaves alone
taking_keeps : {A B : Type 0} (part : Entry → B) (half : Half A) (order : Order A) (date : ℕ) (brought : Option A) (e : Entry)
    → part (with_half half brought (half.dated date e)) ≡ part e → part (taking half order date brought e) ≡ part e
taking_keeps part half order date brought e h =
    by_test (stays order (half.stored e) date brought)
    (λ y. ap part (taking_stays half order date brought e y))
    (λ y. ap part (taking_takes half order date brought e y) ∙ h)

module _ (date : ℕ) (e : Entry) where
  pub keyless_direct : (updated date None e).direct ≡ e.direct
  unfolding updated seen_by
  keyless_direct = taking_keeps (λ (x : Entry). x.direct) the_direct (above the_direct) date None e refl

  pub updated_gossip : (brought : Option Direct) → (updated date brought e).gossip ≡ e.gossip
  unfolding updated seen_by with_direct
  updated_gossip None = taking_keeps (λ (x : Entry). x.gossip) the_direct (above the_direct) date None e refl
  updated_gossip (Some d) = taking_keeps (λ (x : Entry). x.gossip) the_direct (above the_direct) date (Some d) e refl

  pub heard_seen : (key : List ℕ) → (heard date key e).last_seen ≡ e.last_seen
  unfolding heard with_gossip
  heard_seen key = taking_keeps (λ (x : Entry). x.last_seen) the_gossip (above the_gossip) date _ e refl

  pub heard_direct : (key : List ℕ) → (heard date key e).direct ≡ e.direct
  unfolding heard with_gossip
  heard_direct key = taking_keeps (λ (x : Entry). x.direct) the_gossip (above the_gossip) date _ e refl

-- an equal date replaces, whichever half it is
equal_stays_not : {A : Type 0} (half : Half A) (x : A) → stays (above half) (Some x) (half.timestamp x) None ≡ false
unfolding stays above
equal_stays_not half x = le-ltb (half.timestamp x) (half.timestamp x) (omega arith)

pub equal_replaces : (d : Direct) → younger d.timestamp (Some d) ≡ false
unfolding younger
equal_replaces d = equal_stays_not the_direct d

pub equal_heard : (g : Gossip) → younger_gossip g.timestamp (Some g) ≡ false
unfolding younger_gossip
equal_heard g = equal_stays_not the_gossip g

-- gossip over gossip of the same date
over_gossip : (date : ℕ) (k l : List ℕ) (e : Entry)
    → (younger_gossip date (with_gossip (record { timestamp = date; key = k }) e).gossip ≡ false)
    × (with_gossip (record { timestamp = date; key = l }) (with_gossip (record { timestamp = date; key = k }) e) ≡ with_gossip (record { timestamp = date; key = l }) e)
unfolding with_gossip
over_gossip date k l e = (equal_heard (record { timestamp = date; key = k }), refl)

pub heard_again : (date : ℕ) (k l : List ℕ) (e : Entry) → heard date l (heard date k e) ≡ heard date l e
heard_again date k l e =
    by_test (younger_gossip date e.gossip) (λ y. rw (heard_older date e k y))
    (λ y.
    rw (heard_now date e k y)
    (heard_now date (with_gossip (record { timestamp = date; key = k }) e) l (over_gossip date k l e).0
    ∙ (over_gossip date k l e).1
    ∙ sym (heard_now date e l y)))
