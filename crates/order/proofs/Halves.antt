-- What comes in for an entry, by its three parts: last seen, the direct half and the gossip half. Each part changes on its own, by its order.
--     Timely                             last seen is not below the Autocrypt timestamp
--     Stamped                            what a message brings has its date
--     hearing                            a gossip half comes in with its own date
--     sent_parts_lem, heard_parts_lem    a message of the sender and gossip, by the parts
--     timely_sent, timely_heard          both keep last seen above the Autocrypt timestamp
--     heard_twice                        gossip behind gossip: the one of them that stands
--     sent_swap, heard_swap, apart_swap  two changes in either order
-- Assumes nothing.
use Prim.Native.Nat.{ℕ, ◌≤◌, max}
use mathlib.Core.Path.{◌≡◌, refl, sym, ap, ◌∙◌}
use mathlib.Core.Bool.{true, false, false≢true}
use mathlib.Core.List.{List}
use Rattle.std.specs.Prelude.{Option, Some, None}
use native.Mathlib.Omega.{arith}
use Rattle.octets.specs.Options.{or_else, is_some, IfSome}
use Rattle.octets.proofs.Tests.{by_test}
use Rattle.heads.specs.Entry.{Direct, Gossip, Entry, seen_by, with_direct, with_gossip}
use Rattle.update.specs.Update.{Order, stays, with_half, taking, the_direct, the_gossip}
use Rattle.update.proofs.Writing.{taking_stays, taking_takes}
use Rattle.order.proofs.Later.{over, later, Orderly, later_stays, later_replaces, later_holds, Settled, later_swap, later_twice}

-- T8.10: beside a direct half last seen is there, and is at least the Autocrypt timestamp
pub record Seen (seen : Option ℕ) (d : Direct) : Type 0 where
  pub was_seen : is_some seen ≡ true
  pub not_below : d.timestamp ≤ or_else 0 seen

unfoldable pub Timely : Entry → Type 0
Timely e = IfSome (Seen e.last_seen) e.direct

-- the timestamp of what comes in is the date
unfoldable pub Stamped : ℕ → Option Direct → Type 0
Stamped date brought = IfSome (λ (d : Direct). d.timestamp ≡ date) brought

-- a message that is not younger than the direct half would not have raised last seen either
raised_not : (seen : Option ℕ) (d : Direct) (date : ℕ) → Seen seen d → date ≤ d.timestamp → Some (max (or_else 0 seen) date) ≡ seen
unfolding is_some or_else
raised_not None d date h l = absurd (false≢true h.was_seen)
raised_not (Some s) d date h l = ap Some (omega (arith, h.not_below))

seen_more : (seen : Option ℕ) (date : ℕ) (direct : Option Direct) → IfSome (Seen seen) direct → IfSome (Seen (Some (max (or_else 0 seen) date))) direct
unfolding is_some or_else
seen_more seen date None h = tt
seen_more seen date (Some d) h = record { was_seen = refl; not_below = omega (arith, h.not_below) }

seen_new : (seen : Option ℕ) (date : ℕ) (brought : Option Direct) → Stamped date brought → IfSome (Seen (Some (max (or_else 0 seen) date))) brought
unfolding Stamped is_some or_else
seen_new seen date None s = tt
seen_new seen date (Some d) s = record { was_seen = refl; not_below = omega arith }

-- last seen is raised, and of the direct halves the later one stands
module _ (order : Order Direct) where
  abbrev pub sent_parts : ℕ → Option Direct → Entry → Entry
  sent_parts date brought e =
      record {
        address = e.address;
        last_seen = Some (max (or_else 0 e.last_seen) date);
        direct = later the_direct order brought e.direct;
        gossip = e.gossip;
      }

  -- by its own timestamp the old half stays or is replaced
  brought_stays : (date : ℕ) (brought : Option Direct) (d : Direct) → Stamped date brought → order d date brought ≡ true
      → later the_direct order brought (Some d) ≡ Some d
  unfolding later Stamped over
  brought_stays date None d s t = refl
  brought_stays date (Some x) d s t = later_stays the_direct order x d (ap (λ (n : ℕ). order d n (Some x)) s ∙ t)

  brought_stands : (date : ℕ) (brought : Option Direct) (a : List ℕ) (seen : Option ℕ) (d : Direct) (gossip : Option Gossip)
      → Stamped date brought → order d date brought ≡ false
      → with_half the_direct brought (seen_by date (record { address = a; last_seen = seen; direct = Some d; gossip = gossip }))
      ≡ sent_parts date brought (record { address = a; last_seen = seen; direct = Some d; gossip = gossip })
  unfolding later Stamped over seen_by with_direct
  brought_stands date None a seen d gossip s f = refl
  brought_stands date (Some x) a seen d gossip s f = λ i.
      record {
        address = a;
        last_seen = Some (max (or_else 0 seen) date);
        direct = sym (later_replaces the_direct order x d (ap (λ (n : ℕ). order d n (Some x)) s ∙ f)) i;
        gossip = gossip;
      }

  module _ (o : Orderly the_direct order) where
    sent_by : (date : ℕ) (brought : Option Direct) (a : List ℕ) (seen : Option ℕ) (direct : Option Direct) (gossip : Option Gossip)
        → Stamped date brought → IfSome (Seen seen) direct
        → taking the_direct order date brought (record { address = a; last_seen = seen; direct = direct; gossip = gossip })
        ≡ sent_parts date brought (record { address = a; last_seen = seen; direct = direct; gossip = gossip })
    unfolding taking stays later seen_by with_direct
    sent_by date None a seen None gossip s h = refl
    sent_by date (Some x) a seen None gossip s h = refl
    sent_by date brought a seen (Some d) gossip s h =
        let e : Entry = record { address = a; last_seen = seen; direct = Some d; gossip = gossip } in
        by_test (order d date brought)
        (λ t.
        taking_stays the_direct order date brought e t
        ∙ (λ i. record {
          address = a;
          last_seen = sym (raised_not seen d date h (o.not_younger d date brought t)) i;
          direct = sym (brought_stays date brought d s t) i;
          gossip = gossip;
        }))
        (λ f. taking_takes the_direct order date brought e f ∙ brought_stands date brought a seen d gossip s f)

    pub sent_parts_lem : (date : ℕ) (brought : Option Direct) (e : Entry) → Stamped date brought → Timely e
        → taking the_direct order date brought e ≡ sent_parts date brought e
    unfolding Timely
    sent_parts_lem date brought e s h = sent_by date brought e.address e.last_seen e.direct e.gossip s h

    pub timely_sent : (date : ℕ) (brought : Option Direct) (e : Entry) → Stamped date brought → Timely e
        → Timely (taking the_direct order date brought e)
    unfolding Timely
    timely_sent date brought e s h =
        rw (sent_parts_lem date brought e s h)
        (later_holds the_direct order (Seen (Some (max (or_else 0 e.last_seen) date))) brought e.direct
        (seen_new e.last_seen date brought s) (seen_more e.last_seen date e.direct h))

    pub sent_swap : (d₁ d₂ : ℕ) (b₁ b₂ : Option Direct) (e : Entry) → Stamped d₁ b₁ → Stamped d₂ b₂ → Timely e
        → Settled the_direct order b₂ b₁
        → taking the_direct order d₂ b₂ (taking the_direct order d₁ b₁ e) ≡ taking the_direct order d₁ b₁ (taking the_direct order d₂ b₂ e)
    unfolding or_else
    sent_swap d₁ d₂ b₁ b₂ e s₁ s₂ h same =
        twice d₁ d₂ b₁ b₂ s₁ s₂
        ∙ (λ i. record { address = e.address; last_seen = seen i; direct = later_swap the_direct order o b₂ b₁ e.direct same i; gossip = e.gossip })
        ∙ sym (twice d₂ d₁ b₂ b₁ s₂ s₁)
      where
        twice : (d₁ d₂ : ℕ) (b₁ b₂ : Option Direct) → Stamped d₁ b₁ → Stamped d₂ b₂
            → taking the_direct order d₂ b₂ (taking the_direct order d₁ b₁ e) ≡ sent_parts d₂ b₂ (sent_parts d₁ b₁ e)
        twice d₁ d₂ b₁ b₂ s₁ s₂ =
            sent_parts_lem d₂ b₂ (taking the_direct order d₁ b₁ e) s₂ (timely_sent d₁ b₁ e s₁ h) ∙ ap (sent_parts d₂ b₂) (sent_parts_lem d₁ b₁ e s₁ h)

        seen : Some (max (max (or_else 0 e.last_seen) d₁) d₂) ≡ Some (max (max (or_else 0 e.last_seen) d₂) d₁)
        seen = ap Some (omega arith)

-- of the gossip halves the later one stands
module _ (order : Order Gossip) where
  abbrev pub hearing : Gossip → Entry → Entry
  hearing g e = taking the_gossip order g.timestamp (Some g) e

  abbrev pub heard_parts : Gossip → Entry → Entry
  heard_parts g e =
      record { address = e.address; last_seen = e.last_seen; direct = e.direct; gossip = later the_gossip order (Some g) e.gossip }

  heard_by : (g : Gossip) (a : List ℕ) (seen : Option ℕ) (direct : Option Direct) (gossip : Option Gossip)
      → hearing g (record { address = a; last_seen = seen; direct = direct; gossip = gossip })
      ≡ heard_parts g (record { address = a; last_seen = seen; direct = direct; gossip = gossip })
  unfolding taking stays later over with_gossip
  heard_by g a seen direct None = refl
  heard_by g a seen direct (Some old) =
      let e : Entry = record { address = a; last_seen = seen; direct = direct; gossip = Some old } in
      by_test (order old g.timestamp (Some g))
      (λ t.
      taking_stays the_gossip order g.timestamp (Some g) e t
      ∙ (λ i. record { address = a; last_seen = seen; direct = direct; gossip = sym (later_stays the_gossip order g old t) i }))
      (λ f.
      taking_takes the_gossip order g.timestamp (Some g) e f
      ∙ (λ i. record { address = a; last_seen = seen; direct = direct; gossip = sym (later_replaces the_gossip order g old f) i }))

  pub heard_parts_lem : (g : Gossip) (e : Entry) → hearing g e ≡ heard_parts g e
  heard_parts_lem g e = heard_by g e.address e.last_seen e.direct e.gossip

  pub timely_heard : (g : Gossip) (e : Entry) → Timely e → Timely (hearing g e)
  unfolding Timely
  timely_heard g e h = rw (heard_parts_lem g e) h

  both_parts : (g₁ g₂ : Gossip) (e : Entry) → hearing g₂ (hearing g₁ e) ≡ heard_parts g₂ (heard_parts g₁ e)
  both_parts g₁ g₂ e = heard_parts_lem g₂ (hearing g₁ e) ∙ ap (heard_parts g₂) (heard_parts_lem g₁ e)

  module _ (o : Orderly the_gossip order) (g₁ g₂ : Gossip) (e : Entry) where
    pub heard_swap : Settled the_gossip order (Some g₂) (Some g₁) → hearing g₂ (hearing g₁ e) ≡ hearing g₁ (hearing g₂ e)
    heard_swap same =
        both_parts g₁ g₂ e
        ∙ (λ i. record {
          address = e.address;
          last_seen = e.last_seen;
          direct = e.direct;
          gossip = later_swap the_gossip order o (Some g₂) (Some g₁) e.gossip same i;
        })
        ∙ sym (both_parts g₂ g₁ e)

    pub heard_twice : (g : Gossip) → later the_gossip order (Some g₂) (Some g₁) ≡ Some g → hearing g₂ (hearing g₁ e) ≡ hearing g e
    heard_twice g q =
        both_parts g₁ g₂ e
        ∙ (λ i. record {
          address = e.address;
          last_seen = e.last_seen;
          direct = e.direct;
          gossip = (later_twice the_gossip order o (Some g₁) (Some g₂) e.gossip ∙ ap (λ (x : Option Gossip). later the_gossip order x e.gossip) q) i;
        })
        ∙ sym (heard_parts_lem g e)

  -- the sender's message leaves gossip alone, and gossip leaves the rest alone
  pub apart_swap : (sending : Order Direct) (date : ℕ) (b : Option Direct) (g : Gossip) (e : Entry)
      → hearing g (taking the_direct sending date b e) ≡ taking the_direct sending date b (hearing g e)
  unfolding seen_by with_direct
  apart_swap sending date b g e =
      rw (heard_parts_lem g e, heard_parts_lem g (taking the_direct sending date b e))
      (by_test (stays sending e.direct date b)
      (λ t. rw (taking_stays the_direct sending date b e t) (sym (taking_stays the_direct sending date b (heard_parts g e) t)))
      (λ f. rw (taking_takes the_direct sending date b e f) (with_field b ∙ sym (taking_takes the_direct sending date b (heard_parts g e) f))))
    where
      with_field : (b : Option Direct) → heard_parts g (with_half the_direct b (seen_by date e)) ≡ with_half the_direct b (seen_by date (heard_parts g e))
      with_field None = refl
      with_field (Some d) = refl
