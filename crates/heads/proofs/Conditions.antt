-- What the conditions on a head say, as facts.
--     all_three                                tests joined by "and"
--     seen_facts, direct_facts, gossip_facts   last seen, and the two halves
-- Assumes nothing.
use Prim.Native.Nat.{ℕ, ◌≤◌}
use mathlib.Core.Path.{◌≡◌, refl, sym}
use mathlib.Core.Bool.{Bool, true, false, not, ◌&&◌, ◌||◌, false≢true}
use native.Mathlib.Omega.{arith}
use borrow.Author.Tests.{leb-true, eqb-true}
use lib.Dec.{leb, eqb}
use Rattle.octets.specs.Tests.{one_to}
use Rattle.octets.proofs.Tests.{and_left, and_right, by_test}
use Rattle.heads.specs.declared.Head.{Head}
use Rattle.heads.specs.Head.{time_limit, seen_sound, direct_sound, gossip_sound}
use Rattle.heads.specs.Facts.{SoundSeen, SoundDirect, SoundGossip}

-- tests joined by "and", "or" and "implies"
pub all_three : (a b c : Bool) → (a && b && c) ≡ true → (a ≡ true) × (b ≡ true) × (c ≡ true)
all_three a b c h =
    let k : (a && b) ≡ true = and_left (a && b) c h in
    (and_left a b k, and_right a b k, and_right (a && b) c h)

otherwise : (a b : Bool) → (a || b) ≡ true → a ≡ false → b ≡ true
otherwise true b h e = absurd (false≢true (sym e))
otherwise false b h e = h

implied : (a b : Bool) → (not a || b) ≡ true → a ≡ true → b ≡ true
implied true b h e = h
implied false b h e = absurd (false≢true e)

-- a half is tested by what it must be where it is there, and by what where it is gone
where_there : (b there gone : Bool) → ((not b || there) && (b || gone)) ≡ true → b ≡ true → there ≡ true
where_there b there gone h = implied b there (and_left (not b || there) (b || gone) h)

where_gone : (b there gone : Bool) → ((not b || there) && (b || gone)) ≡ true → b ≡ false → gone ≡ true
where_gone b there gone h = otherwise b gone (and_right (not b || there) (b || gone) h)

denied : (a : Bool) → not a ≡ true → a ≡ false
denied true h = absurd (false≢true h)
denied false h = refl

-- a length of 1 to a limit
in_one_to : (limit n : ℕ) → one_to limit n ≡ true → (1 ≤ n) × (n ≤ limit)
in_one_to limit n h = (leb-true 1 n (and_left (leb 1 n) (leb n limit) h), leb-true n limit (and_right (leb 1 n) (leb n limit) h))

-- what is in range where it is present, and zero where not
always_in : (b : Bool) (t : ℕ) → (b ≡ true → t ≤ time_limit) → (b ≡ false → t ≡ 0) → t ≤ time_limit
always_in b t f g = by_test b f (λ e. omega (arith, g e))

module _ (n : Head) where
  pub seen_facts : seen_sound n ≡ true → SoundSeen n
  seen_facts h =
      let c = all_three (leb n.last_seen time_limit) (n.seen || eqb n.last_seen 0) (not n.direct || n.seen) h in
      record {
        in_range = leb-true n.last_seen time_limit c.0;
        absent = λ e. eqb-true n.last_seen 0 (otherwise n.seen (eqb n.last_seen 0) c.1 e);
        beside_key = λ e. implied n.direct n.seen c.2 e;
      }

  module _ (limit : ℕ) where
    abbrev direct_there : Bool
    direct_there = one_to limit n.direct_length && leb n.timestamp time_limit && leb n.timestamp n.last_seen

    abbrev direct_gone : Bool
    direct_gone = eqb n.timestamp 0 && eqb n.direct_length 0 && not n.«mutual»

    abbrev gossip_there : Bool
    gossip_there = one_to limit n.gossip_length && leb n.gossip_timestamp time_limit

    abbrev gossip_gone : Bool
    gossip_gone = eqb n.gossip_timestamp 0 && eqb n.gossip_length 0

    module _ (h : direct_sound limit n ≡ true) where
      here : n.direct ≡ true → (one_to limit n.direct_length ≡ true) × (leb n.timestamp time_limit ≡ true) × (leb n.timestamp n.last_seen ≡ true)
      here e =
          all_three (one_to limit n.direct_length) (leb n.timestamp time_limit) (leb n.timestamp n.last_seen)
          (where_there n.direct direct_there direct_gone h e)

      gone : n.direct ≡ false → (eqb n.timestamp 0 ≡ true) × (eqb n.direct_length 0 ≡ true) × (not n.«mutual» ≡ true)
      gone e =
          all_three (eqb n.timestamp 0) (eqb n.direct_length 0) (not n.«mutual») (where_gone n.direct direct_there direct_gone h e)

      pub direct_facts : SoundDirect limit n
      direct_facts =
          record {
            in_range =
                always_in n.direct n.timestamp (λ e. leb-true n.timestamp time_limit (here e).1) (λ e. eqb-true n.timestamp 0 (gone e).0);
            key_length = λ e. in_one_to limit n.direct_length (here e).0;
            not_above = λ e. leb-true n.timestamp n.last_seen (here e).2;
            absent = λ e. (eqb-true n.timestamp 0 (gone e).0, eqb-true n.direct_length 0 (gone e).1);
            no_mutual = λ e. denied n.«mutual» (gone e).2;
          }

    module _ (h : gossip_sound limit n ≡ true) where
      heard : n.gossip ≡ true → (one_to limit n.gossip_length ≡ true) × (leb n.gossip_timestamp time_limit ≡ true)
      heard e =
          let t : gossip_there ≡ true = where_there n.gossip gossip_there gossip_gone h e in
          (and_left (one_to limit n.gossip_length) (leb n.gossip_timestamp time_limit) t, and_right (one_to limit n.gossip_length) (leb n.gossip_timestamp time_limit) t)

      unheard : n.gossip ≡ false → (n.gossip_timestamp ≡ 0) × (n.gossip_length ≡ 0)
      unheard e =
          let t : gossip_gone ≡ true = where_gone n.gossip gossip_there gossip_gone h e in (
            eqb-true n.gossip_timestamp 0 (and_left (eqb n.gossip_timestamp 0) (eqb n.gossip_length 0) t),
            eqb-true n.gossip_length 0 (and_right (eqb n.gossip_timestamp 0) (eqb n.gossip_length 0) t),
          )

      pub gossip_facts : SoundGossip limit n
      gossip_facts =
          record {
            in_range = always_in n.gossip n.gossip_timestamp (λ e. leb-true n.gossip_timestamp time_limit (heard e).1) (λ e. (unheard e).0);
            key_length = λ e. in_one_to limit n.gossip_length (heard e).0;
            absent = unheard;
          }
