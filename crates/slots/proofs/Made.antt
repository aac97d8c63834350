-- The slot of a good entry: it reads back as the entry, and is sound (T8).
--     entry_back       from a good entry to its slot and back
--     slot_sound       the slot is sound
--     slot_long        and has 4,392 octets
--     slot_octets      all of them octets
-- Assumes nothing.
use Prim.Native.Nat.{ℕ, ◌+◌, ◌-◌}
use mathlib.Core.Path.{◌≡◌, refl, ap, ◌∙◌}
use mathlib.Core.Bool.{true}
use mathlib.Core.List.{List, ◌∷◌, ◌++◌}
use native.Mathlib.Omega.{arith}
use lib.ListN.{length, take, drop, replicate, length-append}
use lib.Seq.{take_at, drop_at, take_all}
use Rattle.octets.specs.Octets.{AllOctets, all_zero}
use Rattle.octets.specs.Options.{or_else}
use Rattle.octets.proofs.Comparing.{same_refl}
use Rattle.octets.proofs.Joined.{more_octets, append_octets, replicate_octets}
use Rattle.octets.proofs.Zeros.{zero_replicate}
use Rattle.heads.specs.declared.Head.{Head}
use Rattle.heads.specs.Head.{address_length, direct_length, gossip_length, head_of, clear, head_octets}
use Rattle.heads.specs.Entry.{Direct, Gossip, Entry, present, no_direct, no_gossip, head_for}
use Rattle.heads.proofs.Parts.{drop_past}
use Rattle.heads.proofs.Writing.{length_head}
use Rattle.heads.proofs.RoundTrip.{head_kept, clear_kept, head_octets_lem}
use Rattle.heads.proofs.Entries.{present_back, half_holds}
use Rattle.heads.proofs.Goodness.{good_address, good_direct, good_gossip, good_fit, made_seen, made_direct, made_gossip}
use Rattle.slots.specs.Slot.{slot_length, address_room, key_limit, mark, address_area, direct_area, gossip_area, address_of, direct_key_of, gossip_key_of, marked, spelled, zero_padding, sound_by, sound}
use Rattle.slots.specs.declared.Spelling.TheVariants.{Canonical}
use Rattle.slots.specs.Entry.{entry_of, padded, areas, slot_of, GoodDirect, GoodGossip, Good}
use Rattle.slots.proofs.Writing.{front_long, length_padded}

-- the area of a text, and the text in it
text_in : (room : ℕ) (t : List ℕ) → take (length t) (padded room t) ≡ t
unfolding padded
text_in room t = take_at t (replicate (room - length t) 0) (length t) refl

zeros_behind : (room : ℕ) (t : List ℕ) → all_zero (drop (length t) (padded room t)) ≡ true
unfolding padded
zeros_behind room t = rw (drop_at t (replicate (room - length t) 0) (length t) refl) (zero_replicate (room - length t))

module _ (e : Entry) (g : Good e) where
  head_same : head_of (slot_of e) ≡ head_for e
  unfolding slot_of
  head_same = head_kept (head_for e) 65 49 (areas e) (good_fit e g (omega arith))

  -- the lengths by themselves
  length_kept : address_length (slot_of e) ≡ length e.address
  unfolding head_of head_for
  length_kept = ap (λ (n : Head). n.address_length) head_same

  direct_length_kept : direct_length (slot_of e) ≡ length (or_else no_direct e.direct).key
  unfolding head_of head_for
  direct_length_kept = ap (λ (n : Head). n.direct_length) head_same

  gossip_length_kept : gossip_length (slot_of e) ≡ length (or_else no_gossip e.gossip).key
  unfolding head_of head_for
  gossip_length_kept = ap (λ (n : Head). n.gossip_length) head_same

  -- the areas, one behind the other
  address_long : length (padded address_room e.address) ≡ 256
  address_long = length_padded address_room e.address (omega (arith, good_address e g))

  direct_long : length (padded key_limit (or_else no_direct e.direct).key) ≡ 2048
  direct_long = length_padded key_limit (or_else no_direct e.direct).key (good_direct e g)

  gossip_long : length (padded key_limit (or_else no_gossip e.gossip).key) ≡ 2048
  gossip_long = length_padded key_limit (or_else no_gossip e.gossip).key (good_gossip e g)

  behind_head : (at : ℕ) → drop (40 + at) (slot_of e) ≡ drop at (areas e)
  unfolding slot_of
  behind_head at = drop_past (mark ++ head_octets (head_for e)) (areas e) 40 at (front_long (head_for e))

  behind_address : (at : ℕ) → drop (256 + at) (areas e) ≡ drop at (padded key_limit (or_else no_direct e.direct).key ++ padded key_limit (or_else no_gossip e.gossip).key)
  unfolding areas
  behind_address at =
      drop_past (padded address_room e.address) (padded key_limit (or_else no_direct e.direct).key ++ padded key_limit (or_else no_gossip e.gossip).key) 256 at
      address_long

  address_there : address_area (slot_of e) ≡ padded address_room e.address
  unfolding areas
  address_there =
      ap (take 256) (behind_head 0)
      ∙ take_at (padded address_room e.address) (padded key_limit (or_else no_direct e.direct).key ++ padded key_limit (or_else no_gossip e.gossip).key) 256
      address_long

  direct_there : direct_area (slot_of e) ≡ padded key_limit (or_else no_direct e.direct).key
  direct_there =
      ap (take 2048) (behind_head 256 ∙ behind_address 0)
      ∙ take_at (padded key_limit (or_else no_direct e.direct).key) (padded key_limit (or_else no_gossip e.gossip).key) 2048 direct_long

  gossip_there : gossip_area (slot_of e) ≡ padded key_limit (or_else no_gossip e.gossip).key
  gossip_there =
      ap (take 2048)
      (behind_head 2304
      ∙ behind_address 2048
      ∙ drop_at (padded key_limit (or_else no_direct e.direct).key) (padded key_limit (or_else no_gossip e.gossip).key) 2048 direct_long)
      ∙ take_all 2048 (padded key_limit (or_else no_gossip e.gossip).key) (omega (arith, gossip_long))

  pub slot_long : length (slot_of e) ≡ slot_length
  unfolding slot_of areas
  slot_long = simp length-append (omega (arith, length_head (head_for e), address_long, direct_long, gossip_long))

  pub address_kept : address_of (slot_of e) ≡ e.address
  unfolding address_of
  address_kept = rw (address_there, length_kept) (text_in address_room e.address)

  pub direct_key_kept : direct_key_of (slot_of e) ≡ (or_else no_direct e.direct).key
  unfolding direct_key_of
  direct_key_kept = rw (direct_there, direct_length_kept) (text_in key_limit (or_else no_direct e.direct).key)

  pub gossip_key_kept : gossip_key_of (slot_of e) ≡ (or_else no_gossip e.gossip).key
  unfolding gossip_key_of
  gossip_key_kept = rw (gossip_there, gossip_length_kept) (text_in key_limit (or_else no_gossip e.gossip).key)

  pub entry_back : entry_of (slot_of e) ≡ e
  unfolding entry_of head_of head_for
  entry_back =
      λ i.
      record {
        address = address_kept i;
        last_seen =
            ((λ j. present (head_same j).seen (head_same j).last_seen) ∙ present_back 0 e.last_seen) i;
        direct =
            ((λ j.
            present {A = Direct} (head_same j).direct
            (record { timestamp = (head_same j).timestamp; key = direct_key_kept j; «mutual» = (head_same j).«mutual» }))
            ∙ present_back no_direct e.direct) i;
        gossip =
            ((λ j. present {A = Gossip} (head_same j).gossip (record { timestamp = (head_same j).gossip_timestamp; key = gossip_key_kept j }))
            ∙ present_back no_gossip e.gossip) i;
      }

  -- the conditions
  made_marked : marked (slot_of e) ≡ true
  unfolding marked slot_of
  made_marked = same_refl mark

  made_canonical : spelled Canonical (address_of (slot_of e)) ≡ true
  unfolding spelled
  made_canonical = rw address_kept g.canonical

  made_clear : clear (slot_of e) ≡ true
  unfolding slot_of
  made_clear = clear_kept (head_for e) 65 49 (areas e)

  made_padding : zero_padding (head_for e) (slot_of e) ≡ true
  unfolding zero_padding head_for
  made_padding =
      rw (
        made_clear,
        address_there,
        direct_there,
        gossip_there,
        zeros_behind address_room e.address,
        zeros_behind key_limit (or_else no_direct e.direct).key,
        zeros_behind key_limit (or_else no_gossip e.gossip).key,
      )

  pub slot_sound : sound (slot_of e) ≡ true
  unfolding sound_by
  slot_sound = rw (head_same, made_marked, made_canonical, made_padding, made_seen e g, made_direct e g, made_gossip e g)

padded_octets : (room : ℕ) (s : List ℕ) → AllOctets s → AllOctets (padded room s)
unfolding padded
padded_octets room s o = append_octets s (replicate (room - length s) 0) o (replicate_octets (room - length s) 0 (omega arith))

module _ (e : Entry) (g : Good e) where
  direct_octets : AllOctets (or_else no_direct e.direct).key
  direct_octets =
      half_holds (GoodDirect e.last_seen) (λ (d : Direct). AllOctets d.key) no_direct (λ i. omega arith) (λ d h. h.key.octets) e.direct g.direct

  gossip_octets : AllOctets (or_else no_gossip e.gossip).key
  gossip_octets =
      half_holds GoodGossip (λ (d : Gossip). AllOctets d.key) no_gossip (λ i. omega arith) (λ d h. h.key.octets) e.gossip g.gossip

  areas_octets : AllOctets (areas e)
  unfolding areas
  areas_octets =
      append_octets (padded address_room e.address) (padded key_limit (or_else no_direct e.direct).key ++ padded key_limit (or_else no_gossip e.gossip).key)
      (padded_octets address_room e.address g.octets)
      (append_octets (padded key_limit (or_else no_direct e.direct).key) (padded key_limit (or_else no_gossip e.gossip).key)
      (padded_octets key_limit (or_else no_direct e.direct).key direct_octets)
      (padded_octets key_limit (or_else no_gossip e.gossip).key gossip_octets))

  pub slot_octets : AllOctets (slot_of e)
  unfolding slot_of
  slot_octets =
      more_octets 65 (49 ∷ (head_octets (head_for e) ++ areas e)) (omega arith)
      (more_octets 49 (head_octets (head_for e) ++ areas e) (omega arith)
      (append_octets (head_octets (head_for e)) (areas e) (head_octets_lem (head_for e)) areas_octets))
