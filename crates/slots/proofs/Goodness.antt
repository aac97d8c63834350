-- The entry of a sound slot is good, with the key limit of slots.
--     good_renamed     under any canonical address, where it was sound by either rule
--     good_entry       under its own
--     address_octets   its address is made of octets
-- Assumes nothing.
use Prim.Native.Nat.{ℕ, ◌≤◌}
use mathlib.Core.Path.{◌≡◌, refl}
use mathlib.Core.Bool.{Bool, true, false}
use mathlib.Core.List.{List}
use native.Mathlib.Omega.{arith}
use lib.ListN.{length, take, drop}
use Rattle.octets.specs.Octets.{AllOctets}
use Rattle.octets.specs.Options.{or_else, IfSome, is_some}
use Rattle.octets.proofs.Lists.{take_octets, drop_octets}
use Rattle.heads.specs.Head.{time_limit, has_last_seen, has_direct, has_gossip, is_mutual, last_seen, timestamp, gossip_timestamp, address_length, direct_length, gossip_length}
use Rattle.address.specs.Address.{is_canonical}
use Rattle.heads.specs.Entry.{present, renamed}
use Rattle.slots.specs.Slot.{slot_length, address_area, direct_area, gossip_area, address_of, direct_key_of, gossip_key_of, spelled}
use Rattle.slots.specs.Entry.{entry_of, GoodKey, GoodDirect, GoodGossip, Good}
use Rattle.slots.specs.declared.Spelling.{Spelling}
use Rattle.slots.specs.Facts.{SoundBy, Sound}
use Rattle.slots.proofs.Entries.{direct_long, gossip_long}

half_of : {A : Type 0} (P : A → Type 0) (b : Bool) (x : A) → (b ≡ true → P x) → IfSome P (present b x)
half_of P true x h = h refl
half_of P false x h = tt

module _ (s : List ℕ) (o : AllOctets s) where
  part_octets : (at n : ℕ) → AllOctets (take n (drop at s))
  part_octets at n = take_octets n (drop at s) (drop_octets at s o)

  pub address_octets : AllOctets (address_of s)
  unfolding address_of
  address_octets = take_octets (address_length s) (address_area s) (part_octets 40 256)

  direct_octets : AllOctets (direct_key_of s)
  unfolding direct_key_of
  direct_octets = take_octets (direct_length s) (direct_area s) (part_octets 296 2048)

  gossip_octets : AllOctets (gossip_key_of s)
  unfolding gossip_key_of
  gossip_octets = take_octets (gossip_length s) (gossip_area s) (part_octets 2344 2048)

module _ {how : Spelling} (s : List ℕ) (l : length s ≡ slot_length) (p : SoundBy how s) (o : AllOctets s) where
  direct_key : has_direct s ≡ true → GoodKey (direct_key_of s)
  direct_key e =
      record {
        some_octet = omega (arith, direct_long s l p, (p.direct_length_fits e).0);
        most = omega (arith, direct_long s l p, (p.direct_length_fits e).1);
        octets = direct_octets s o;
      }

  gossip_key_told : has_gossip s ≡ true → GoodKey (gossip_key_of s)
  gossip_key_told e =
      record {
        some_octet = omega (arith, gossip_long s l p, (p.gossip_length_fits e).0);
        most = omega (arith, gossip_long s l p, (p.gossip_length_fits e).1);
        octets = gossip_octets s o;
      }

  direct_half : has_direct s ≡ true
      → GoodDirect (present (has_last_seen s) (last_seen s)) (record { timestamp = timestamp s; key = direct_key_of s; «mutual» = is_mutual s })
  unfolding is_some or_else
  direct_half e =
      let q : has_last_seen s ≡ true = (p.direct_seen e).0 in
      record { key = direct_key e; was_seen = rw q; not_below = rw q (p.direct_seen e).1 }

  pub good_renamed : (a : List ℕ) → is_canonical a ≡ true → AllOctets a → Good (renamed a (entry_of s))
  unfolding entry_of renamed
  good_renamed a c q =
      record {
        canonical = c;
        octets = q;
        seen = half_of (λ (t : ℕ). t ≤ time_limit) (has_last_seen s) (last_seen s) (λ e. p.seen_range);
        direct =
            half_of (GoodDirect (present (has_last_seen s) (last_seen s))) (has_direct s)
            (record { timestamp = timestamp s; key = direct_key_of s; «mutual» = is_mutual s })
            direct_half;
        gossip =
            half_of GoodGossip (has_gossip s) (record { timestamp = gossip_timestamp s; key = gossip_key_of s })
            (λ e. record { key = gossip_key_told e; in_range = p.gossip_range });
      }

pub good_entry : (s : List ℕ) → length s ≡ slot_length → Sound s → AllOctets s → Good (entry_of s)
unfolding entry_of renamed spelled
good_entry s l p o = good_renamed s l p o (address_of s) p.address (address_octets s o)
