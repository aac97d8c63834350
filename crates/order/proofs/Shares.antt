-- What a message brings one address, and what that does to its entry, by an order for each half.
--     Share, shared    the address is the sender's or not, and the halves that come in
--     Known            what is known of an entry, or of none
--     heard_both       gossip behind gossip: the one of them that stands
--     share_keeps      a share keeps that
--     share_swap       two shares in either order, where their halves are settled
-- Assumes nothing.
use Prim.Native.Nat.{ℕ}
use mathlib.Core.Path.{◌≡◌, refl, sym, ap, ◌∙◌}
use mathlib.Core.Bool.{Bool, true, false}
use mathlib.Core.List.{List}
use Rattle.std.specs.Prelude.{Option, Some, None}
use Rattle.octets.specs.Options.{or_else, IfSome}
use Rattle.octets.proofs.Tests.{by_test}
use Rattle.heads.specs.Entry.{Direct, Gossip, Entry, newcomer}
use Rattle.update.specs.Update.{Order, taking, the_direct, the_gossip}
use Rattle.order.proofs.Later.{over, later, Orderly, later_stays, later_replaces, Settled}
use Rattle.order.proofs.Halves.{Timely, Stamped, hearing, timely_sent, timely_heard, sent_swap, heard_swap, heard_twice, apart_swap}

pub record Share : Type 0 where
  pub sent : Bool
  pub date : ℕ
  pub direct : Option Direct
  pub gossip : Option Gossip

-- U6, U7, U8, U9: the sender's part, where the address is the sender's
unfoldable pub sent_by : Order Direct → List ℕ → Bool → ℕ → Option Direct → Option Entry → Option Entry
sent_by order b true date brought e = Some (taking the_direct order date brought (or_else (newcomer b) e))
sent_by order b false date brought e = e

unfoldable pub heard_of : Order Gossip → List ℕ → Option Gossip → Option Entry → Option Entry
heard_of order b None e = e
heard_of order b (Some g) e = Some (hearing order g (or_else (newcomer b) e))

abbrev pub shared : Order Direct → Order Gossip → List ℕ → Share → Option Entry → Option Entry
shared sending telling b s e = heard_of telling b s.gossip (sent_by sending b s.sent s.date s.direct e)

-- of an address without an entry nothing has to be known
unfoldable pub Known : Option Entry → Type 0
Known e = IfSome Timely e

known_else : (b : List ℕ) (e : Option Entry) → Known e → Timely (or_else (newcomer b) e)
unfolding Known Timely newcomer or_else
known_else b None k = tt
known_else b (Some e) k = k

-- G5: gossip behind gossip, in order
module _ (order : Order Gossip) (o : Orderly the_gossip order) (b : List ℕ) where
  pub heard_both : (x y : Option Gossip) (e : Option Entry) → heard_of order b y (heard_of order b x e) ≡ heard_of order b (later the_gossip order y x) e
  unfolding heard_of later or_else
  heard_both x None e = refl
  heard_both None (Some h) e = refl
  heard_both (Some g) (Some h) e =
      by_test (over the_gossip order g h)
      (λ t. rw (later_stays the_gossip order h g t) (ap Some (heard_twice order o g h (or_else (newcomer b) e) g (later_stays the_gossip order h g t))))
      (λ f. rw (later_replaces the_gossip order h g f) (ap Some (heard_twice order o g h (or_else (newcomer b) e) h (later_replaces the_gossip order h g f))))

module _ (sending : Order Direct) (telling : Order Gossip) (so : Orderly the_direct sending) (to : Orderly the_gossip telling) (b : List ℕ) where
  known_sent : (x : Bool) (date : ℕ) (brought : Option Direct) (e : Option Entry) → Stamped date brought → Known e
      → Known (sent_by sending b x date brought e)
  unfolding Known sent_by
  known_sent true date brought e s k = timely_sent sending so date brought (or_else (newcomer b) e) s (known_else b e k)
  known_sent false date brought e s k = k

  known_heard : (gossip : Option Gossip) (e : Option Entry) → Known e → Known (heard_of telling b gossip e)
  unfolding Known heard_of
  known_heard None e k = k
  known_heard (Some g) e k = timely_heard telling g (or_else (newcomer b) e) (known_else b e k)

  pub share_keeps : (s : Share) → Stamped s.date s.direct → (e : Option Entry) → Known e → Known (shared sending telling b s e)
  share_keeps s h e k =
      known_heard s.gossip (sent_by sending b s.sent s.date s.direct e) (known_sent s.sent s.date s.direct e h k)

  -- the two parts do not touch each other
  sent_heard : (x : Bool) (date : ℕ) (brought : Option Direct) (gossip : Option Gossip) (e : Option Entry)
      → sent_by sending b x date brought (heard_of telling b gossip e) ≡ heard_of telling b gossip (sent_by sending b x date brought e)
  unfolding sent_by heard_of or_else
  sent_heard false date brought gossip e = refl
  sent_heard true date brought None e = refl
  sent_heard true date brought (Some g) e = ap Some (sym (apart_swap telling sending date brought g (or_else (newcomer b) e)))

  heard_heard : (x y : Option Gossip) (e : Option Entry) → Settled the_gossip telling y x
      → heard_of telling b y (heard_of telling b x e) ≡ heard_of telling b x (heard_of telling b y e)
  unfolding heard_of or_else
  heard_heard None y e same = refl
  heard_heard (Some g) None e same = refl
  heard_heard (Some g) (Some h) e same = ap Some (heard_swap telling to g h (or_else (newcomer b) e) same)

  module _ (s r : Share) (hs : Stamped s.date s.direct) (hr : Stamped r.date r.direct) where
    sent_sent : (x y : Bool) (e : Option Entry) → Known e → (x ≡ true → y ≡ true → Settled the_direct sending r.direct s.direct)
        → sent_by sending b y r.date r.direct (sent_by sending b x s.date s.direct e)
        ≡ sent_by sending b x s.date s.direct (sent_by sending b y r.date r.direct e)
    unfolding sent_by or_else
    sent_sent false y e k same = refl
    sent_sent true false e k same = refl
    sent_sent true true e k same =
        ap Some (sent_swap sending so s.date r.date s.direct r.direct (or_else (newcomer b) e) hs hr (known_else b e k) (same refl refl))

    pub share_swap : (s.sent ≡ true → r.sent ≡ true → Settled the_direct sending r.direct s.direct)
        → Settled the_gossip telling r.gossip s.gossip → (e : Option Entry) → Known e
        → shared sending telling b r (shared sending telling b s e) ≡ shared sending telling b s (shared sending telling b r e)
    share_swap direct gossip e k =
        twice s r
        ∙ heard_heard s.gossip r.gossip _ gossip
        ∙ ap (λ (x : Option Entry). heard_of telling b s.gossip (heard_of telling b r.gossip x)) (sent_sent s.sent r.sent e k direct)
        ∙ sym (twice r s)
      where
        twice : (s r : Share) → shared sending telling b r (shared sending telling b s e)
            ≡ heard_of telling b r.gossip (heard_of telling b s.gossip
            (sent_by sending b r.sent r.date r.direct (sent_by sending b s.sent s.date s.direct e)))
        twice s r = ap (heard_of telling b r.gossip) (sent_heard r.sent r.date r.direct s.gossip _)
