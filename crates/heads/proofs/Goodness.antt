-- Good entries: the heads that they have, that of a new address, and what the writers make of one.
--     good_address .. good_gossip    the bounds of its parts
--     good_fit                       its head fits
--     made_seen, made_direct, made_gossip    and meets the conditions
--     good_newcomer                  the entry of a canonical address is good
--     good_seen_by, good_with_direct, good_with_gossip    and what a writer makes of a good one
-- Assumes nothing.
use Prim.Native.Nat.{ℕ, ◌<◌, ◌≤◌, max}
use mathlib.Core.Path.{◌≡◌, refl}
use mathlib.Core.Bool.{Bool, true, not, ◌&&◌, ◌||◌}
use Rattle.std.specs.Prelude.{Option, Some, None}
use mathlib.Core.List.{List}
use native.Mathlib.Nat.{le-max_left, max-le}
use native.Mathlib.Omega.{arith}
use borrow.Author.Tests.{le-leb}
use lib.Dec.{leb, eqb}
use lib.ListN.{length}
use Rattle.octets.specs.Octets.{AllOctets}
use Rattle.octets.specs.Options.{or_else, is_some, IfSome}
use Rattle.octets.specs.Tests.{one_to}
use Rattle.address.specs.Address.{is_canonical}
use Rattle.address.proofs.Spelling.{own_most}
use Rattle.heads.specs.Head.{time_limit, seen_sound, direct_sound, gossip_sound}
use Rattle.heads.specs.Entry.{Direct, Gossip, Entry, no_direct, no_gossip, head_for, newcomer, seen_by, with_direct, with_gossip, GoodKey, GoodDirect, GoodGossip, Good}
use Rattle.heads.proofs.RoundTrip.{Fit}
use Rattle.heads.proofs.Entries.{half_holds}

-- a test that asks something of a part that is there, and another of one that is not
asked : {A : Type 0} (P : A → Type 0) (there gone : A → Bool) (d : A) → ((x : A) → P x → there x ≡ true) → gone d ≡ true → (o : Option A) → IfSome P o
    → ((not (is_some o) || there (or_else d o)) && (is_some o || gone (or_else d o))) ≡ true
unfolding is_some or_else
asked P there gone d f z None g = z
asked P there gone d f z (Some x) g = rw (f x g)

key_range : {limit : ℕ} (k : List ℕ) → GoodKey limit k → one_to limit (length k) ≡ true
key_range {limit} k h = rw (le-leb 1 (length k) h.some_octet, le-leb (length k) limit h.most)

module _ {limit : ℕ} (e : Entry) (g : Good limit e) where
  pub good_address : length e.address ≤ 254
  good_address = own_most e.address g.canonical

  pub good_seen : or_else 0 e.last_seen ≤ time_limit
  good_seen = half_holds (λ (t : ℕ). t ≤ time_limit) (λ (t : ℕ). t ≤ time_limit) 0 (omega arith) (λ t h. h) e.last_seen g.seen

  good_stamp : (or_else no_direct e.direct).timestamp ≤ time_limit
  good_stamp =
      half_holds (GoodDirect limit e.last_seen) (λ (d : Direct). d.timestamp ≤ time_limit) no_direct (omega arith)
      (λ d h. omega (arith, h.not_below, good_seen))
      e.direct
      g.direct

  good_heard : (or_else no_gossip e.gossip).timestamp ≤ time_limit
  good_heard =
      half_holds (GoodGossip limit) (λ (d : Gossip). d.timestamp ≤ time_limit) no_gossip (omega arith) (λ d h. h.in_range) e.gossip g.gossip

  pub good_direct : length (or_else no_direct e.direct).key ≤ limit
  good_direct =
      half_holds (GoodDirect limit e.last_seen) (λ (d : Direct). length d.key ≤ limit) no_direct (omega arith) (λ d h. h.key.most) e.direct g.direct

  pub good_gossip : length (or_else no_gossip e.gossip).key ≤ limit
  good_gossip =
      half_holds (GoodGossip limit) (λ (d : Gossip). length d.key ≤ limit) no_gossip (omega arith) (λ d h. h.key.most) e.gossip g.gossip

  pub good_fit : limit < 65536 → Fit (head_for e)
  unfolding head_for
  good_fit l =
      record {
        address = omega (arith, good_address);
        direct = omega (arith, good_direct);
        gossip = omega (arith, good_gossip);
        seen = good_seen;
        stamp = good_stamp;
        heard = good_heard;
      }

  -- last seen is there where the direct half is
  beside : (o : Option Direct) → IfSome (GoodDirect limit e.last_seen) o → (not (is_some o) || is_some e.last_seen) ≡ true
  unfolding is_some
  beside None h = refl
  beside (Some d) h = h.was_seen

  absent_zero : (o : Option ℕ) → (is_some o || eqb (or_else 0 o) 0) ≡ true
  unfolding is_some or_else
  absent_zero None = refl
  absent_zero (Some t) = refl

  pub made_seen : seen_sound (head_for e) ≡ true
  unfolding head_for
  made_seen = rw (le-leb (or_else 0 e.last_seen) time_limit good_seen, absent_zero e.last_seen, beside e.direct g.direct)

  pub made_direct : direct_sound limit (head_for e) ≡ true
  unfolding head_for
  made_direct =
      asked (GoodDirect limit e.last_seen)
      (λ (d : Direct). one_to limit (length d.key) && leb d.timestamp time_limit && leb d.timestamp (or_else 0 e.last_seen))
      (λ (d : Direct). eqb d.timestamp 0 && eqb (length d.key) 0 && not d.«mutual»)
      no_direct
      (λ d h.
      rw (
        key_range d.key h.key,
        le-leb d.timestamp time_limit (omega (arith, h.not_below, good_seen)),
        le-leb d.timestamp (or_else 0 e.last_seen) h.not_below,
      ))
      refl
      e.direct
      g.direct

  pub made_gossip : gossip_sound limit (head_for e) ≡ true
  unfolding head_for
  made_gossip =
      asked (GoodGossip limit) (λ (d : Gossip). one_to limit (length d.key) && leb d.timestamp time_limit)
      (λ (d : Gossip). eqb d.timestamp 0 && eqb (length d.key) 0)
      no_gossip
      (λ d h. rw (key_range d.key h.key, le-leb d.timestamp time_limit h.in_range))
      refl
      e.gossip
      g.gossip

pub good_newcomer : {limit : ℕ} (a : List ℕ) → is_canonical a ≡ true → AllOctets a → Good limit (newcomer a)
unfolding newcomer
good_newcomer a c o = record { canonical = c; octets = o; seen = tt; direct = tt; gossip = tt }

-- a direct half stays good where last seen is raised
seen_later : (limit : ℕ) (o : Option ℕ) (date : ℕ) (d : Option Direct) → IfSome (GoodDirect limit o) d → IfSome (GoodDirect limit (Some (max (or_else 0 o) date))) d
unfolding is_some or_else
seen_later limit o date None g = tt
seen_later limit o date (Some d) g = record { key = g.key; was_seen = refl; not_below = omega (arith, g.not_below, le-max_left (or_else 0 o) date) }

module _ {limit : ℕ} (e : Entry) (g : Good limit e) where
  pub good_seen_by : (date : ℕ) → date ≤ time_limit → Good limit (seen_by date e)
  unfolding seen_by
  good_seen_by date h =
      record {
        canonical = g.canonical;
        octets = g.octets;
        seen = max-le (good_seen e g) h;
        direct = seen_later limit e.last_seen date e.direct g.direct;
        gossip = g.gossip;
      }

  pub good_with_direct : (d : Direct) → GoodDirect limit e.last_seen d → Good limit (with_direct d e)
  unfolding with_direct
  good_with_direct d h = record { canonical = g.canonical; octets = g.octets; seen = g.seen; direct = h; gossip = g.gossip }

  pub good_with_gossip : (d : Gossip) → GoodGossip limit d → Good limit (with_gossip d e)
  unfolding with_gossip
  good_with_gossip d h = record { canonical = g.canonical; octets = g.octets; seen = g.seen; direct = g.direct; gossip = h }
