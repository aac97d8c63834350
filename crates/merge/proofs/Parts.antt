-- What merging two slots leaves, part by part (T18).
--     seen_taken .. direct_left      the answers of the three steps
--     direct_room .. gossip_key_room  the keys that are cut out of the other slot
--     seen_merges, gossip_merges     the slot is sound between the steps
--     all_merged                     and the three make the merged entry
--     the rulesets                   taking, for the steps; merging, for `merge`
-- Assumes nothing.
use Prim.Native.Nat.{ℕ, ◌+◌, ◌-◌, ◌≤◌}
use mathlib.Core.Path.{◌≡◌, sym, ap, ◌∙◌}
use mathlib.Core.Bool.{Bool, true, false, not, ◌&&◌, ◌||◌}
use mathlib.Core.List.{List}
use Rattle.std.specs.Prelude.{Option, Some}
use native.Mathlib.Omega.{arith}
use borrow.Author.Rules.{rules}
use mir.Syntax.{w8}
use mir.Val.{Fits}
use lib.Dec.{ltb}
use lib.ListN.{length, get_or, take, drop}
use lib.Seq.{take-take}
use Rattle.octets.proofs.Lists.{given_octets}
use Rattle.heads.specs.declared.Head.{Head}
use Rattle.heads.specs.Head.{head_of, has_last_seen, has_direct, has_gossip, is_mutual, last_seen, timestamp, gossip_timestamp, direct_length, gossip_length}
use Rattle.heads.specs.Entry.{Direct, Gossip, Entry, renamed, seen_by, with_direct, with_gossip}
use Rattle.slots.specs.Slot.{key_limit, direct_key_of, gossip_key_of, sound}
use Rattle.slots.specs.declared.Spelling.TheVariants.{Canonical, Ascii}
use Rattle.slots.specs.Entry.{entry_of, slot_of, Good}
use Rattle.slots.specs.Facts.{SoundBy}
use Rattle.slots.proofs.Sounds.{sound_parts}
use Rattle.slots.proofs.Entries.{slot_back, direct_fits as direct_most, gossip_fits as gossip_most, direct_long as direct_count, gossip_long as gossip_count}
use Rattle.slots.proofs.Goodness.{good_entry, good_renamed}
use Rattle.slots.proofs.Made.{entry_back, slot_sound, slot_long}
use Rattle.merge.specs.Merging.{merged}
use Rattle.merge.specs.Steps.{with_seen, with_later_gossip, with_later_direct, Merges}
use Rattle.merge.proofs.Later.{later_taken, later_kept, later_none, later_seen, good_with_seen, good_with_gossip}

-- a key, as the code cuts it out of its room
cut_out : (o : List ℕ) (at n count : ℕ) → n ≡ count → count ≤ 2048 → take (at + n - at) (drop at o) ≡ take count (take 2048 (drop at o))
cut_out o at n count e l =
    let a : at + n - at ≡ count = omega arith in
    rw a (sym (take-take count 2048 (drop at o) l))

-- the halves that stand in a slot, present or not
abbrev direct_in : List ℕ → Direct
direct_in s = record { timestamp = timestamp s; key = direct_key_of s; «mutual» = is_mutual s }

abbrev gossip_in : List ℕ → Gossip
gossip_in s = record { timestamp = gossip_timestamp s; key = gossip_key_of s }

-- the slot of an entry, one part of which is said in another way
module _ (e : Entry) where
  same_seen : (x y : Option ℕ) → x ≡ y
      → slot_of (record { address = e.address; last_seen = x; direct = e.direct; gossip = e.gossip }) ≡ slot_of (record { address = e.address; last_seen = y; direct = e.direct; gossip = e.gossip })
  same_seen x y p = ap (λ (z : Option ℕ). slot_of (record { address = e.address; last_seen = z; direct = e.direct; gossip = e.gossip })) p

  same_direct : (x y : Option Direct) → x ≡ y
      → slot_of (record { address = e.address; last_seen = e.last_seen; direct = x; gossip = e.gossip }) ≡ slot_of (record { address = e.address; last_seen = e.last_seen; direct = y; gossip = e.gossip })
  same_direct x y p = ap (λ (z : Option Direct). slot_of (record { address = e.address; last_seen = e.last_seen; direct = z; gossip = e.gossip })) p

  same_gossip : (x y : Option Gossip) → x ≡ y
      → slot_of (record { address = e.address; last_seen = e.last_seen; direct = e.direct; gossip = x }) ≡ slot_of (record { address = e.address; last_seen = e.last_seen; direct = e.direct; gossip = y })
  same_gossip x y p = ap (λ (z : Option Gossip). slot_of (record { address = e.address; last_seen = e.last_seen; direct = e.direct; gossip = z })) p

-- two slots, as they are lent
module _ (s o : List ℕ) (m : Merges s o) where
  parts : SoundBy Canonical s
  parts = sound_parts s m.is_sound

  other_parts : SoundBy Ascii o
  other_parts = sound_parts o m.was_sound

  -- the keys of the other slot
  pub direct_room : direct_length o ≤ 2048
  direct_room = direct_most o m.other_long other_parts

  pub gossip_room : gossip_length o ≤ 2048
  gossip_room = gossip_most o m.other_long other_parts

  module _ (n : Head) (e : n ≡ head_of o) where
    direct_long : n.direct_length ≡ direct_length o
    unfolding head_of
    direct_long = ap (λ (x : Head). x.direct_length) e

    gossip_long : n.gossip_length ≡ gossip_length o
    unfolding head_of
    gossip_long = ap (λ (x : Head). x.gossip_length) e

    pub direct_end : 296 + n.direct_length ≤ length o
    direct_end = omega (arith, direct_room, direct_long, m.other_long)

    pub gossip_end : 2344 + n.gossip_length ≤ length o
    gossip_end = omega (arith, gossip_room, gossip_long, m.other_long)

    direct_key : take (296 + n.direct_length - 296) (drop 296 o) ≡ direct_key_of o
    unfolding direct_key_of
    direct_key = cut_out o 296 n.direct_length (direct_length o) direct_long direct_room

    gossip_key_told : take (2344 + n.gossip_length - 2344) (drop 2344 o) ≡ gossip_key_of o
    unfolding gossip_key_of
    gossip_key_told = cut_out o 2344 n.gossip_length (gossip_length o) gossip_long gossip_room

    pub direct_key_room : length (take (296 + n.direct_length - 296) (drop 296 o)) ≤ key_limit
    direct_key_room = rw (direct_key, direct_count o m.other_long other_parts) direct_room

    pub gossip_key_room : length (take (2344 + n.gossip_length - 2344) (drop 2344 o)) ≤ key_limit
    gossip_key_room = rw (gossip_key_told, gossip_count o m.other_long other_parts) gossip_room

  module _ (g : (i : ℕ) → Fits w8 (get_or s i 0)) where
    -- a slot is that of its entry
    back : slot_of (entry_of s) ≡ s
    back = slot_back s m.long parts (given_octets s g)

    module _ (n : Head) (e : n ≡ head_of o) where
      pub seen_taken : (out : List ℕ) → n.seen ≡ true → out ≡ slot_of (seen_by n.last_seen (entry_of s)) → out ≡ slot_of (with_seen (entry_of o) (entry_of s))
      unfolding entry_of head_of seen_by with_seen
      seen_taken out t q =
          let h : has_last_seen o ≡ true = ap (λ (x : Head). x.seen) (sym e) ∙ t in
          q ∙ rw (e, h) (same_seen (entry_of s) _ _ (sym (later_seen (entry_of s).last_seen (last_seen o))))

      pub seen_left : n.seen ≡ false → s ≡ slot_of (with_seen (entry_of o) (entry_of s))
      unfolding entry_of head_of with_seen
      seen_left f =
          let h : has_last_seen o ≡ false = ap (λ (x : Head). x.seen) (sym e) ∙ f in
          sym back ∙ rw h (same_seen (entry_of s) _ _ (later_none (λ (t : ℕ). t) (entry_of s).last_seen))

      module _ (own : Head) (b : Bool) (eo : own ≡ head_of s) where
        module _ (eb : b ≡ (n.gossip && (not own.gossip || ltb own.gossip_timestamp n.gossip_timestamp))) where
          -- the bits and times that were compared are those of the slots
          gossip_test : b ≡ (has_gossip o && (not (has_gossip s) || ltb (gossip_timestamp s) (gossip_timestamp o)))
          unfolding head_of
          gossip_test = rw (eo, e) at eb

          pub gossip_taken : (out : List ℕ) → b ≡ true
              → out ≡ slot_of (with_gossip (record { timestamp = n.gossip_timestamp; key = take (2344 + n.gossip_length - 2344) (drop 2344 o) }) (entry_of s))
              → out ≡ slot_of (with_later_gossip (entry_of o) (entry_of s))
          unfolding entry_of head_of with_gossip with_later_gossip
          gossip_taken out t q =
              q
              ∙ same_gossip (entry_of s) _ _
              ((λ j. Some (record { timestamp = (e j).gossip_timestamp; key = gossip_key_told n e j }))
              ∙ later_taken (λ (x : Gossip). x.timestamp) (gossip_in s) (gossip_in o) b (has_gossip s) (has_gossip o) gossip_test t)

          pub gossip_left : b ≡ false → s ≡ slot_of (with_later_gossip (entry_of o) (entry_of s))
          unfolding entry_of with_later_gossip
          gossip_left f =
              sym back
              ∙ same_gossip (entry_of s) _ _
              (later_kept (λ (x : Gossip). x.timestamp) (gossip_in s) (gossip_in o) b (has_gossip s) (has_gossip o) gossip_test f)

        module _ (eb : b ≡ (n.direct && (not own.direct || ltb own.timestamp n.timestamp))) where
          direct_test : b ≡ (has_direct o && (not (has_direct s) || ltb (timestamp s) (timestamp o)))
          unfolding head_of
          direct_test = rw (eo, e) at eb

          pub direct_taken : (out : List ℕ) → b ≡ true
              → out ≡ slot_of (with_direct (record { timestamp = n.timestamp; key = take (296 + n.direct_length - 296) (drop 296 o); «mutual» = n.«mutual» }) (entry_of s))
              → out ≡ slot_of (with_later_direct (entry_of o) (entry_of s))
          unfolding entry_of head_of with_direct with_later_direct
          direct_taken out t q =
              q
              ∙ same_direct (entry_of s) _ _
              ((λ j. Some (record { timestamp = (e j).timestamp; key = direct_key n e j; «mutual» = (e j).«mutual» }))
              ∙ later_taken (λ (x : Direct). x.timestamp) (direct_in s) (direct_in o) b (has_direct s) (has_direct o) direct_test t)

          pub direct_left : b ≡ false → s ≡ slot_of (with_later_direct (entry_of o) (entry_of s))
          unfolding entry_of with_later_direct
          direct_left f =
              sym back
              ∙ same_direct (entry_of s) _ _
              (later_kept (λ (x : Direct). x.timestamp) (direct_in s) (direct_in o) b (has_direct s) (has_direct o) direct_test f)

pub ruleset taking = (direct_end, gossip_end, direct_key_room, gossip_key_room, seen_taken, seen_left, gossip_taken, gossip_left, direct_taken, direct_left, rules)

-- one step behind the other: what a step leaves is the slot of a good entry
module _ (s o : List ℕ) (m : Merges s o) (g : (i : ℕ) → Fits w8 (get_or s i 0)) (h : (i : ℕ) → Fits w8 (get_or o i 0)) where
  own_good : Good (entry_of s)
  own_good = good_entry s m.long (parts s o m) (given_octets s g)

  other_good : Good (renamed (entry_of s).address (entry_of o))
  other_good = good_renamed o m.other_long (other_parts s o m) (given_octets o h) (entry_of s).address own_good.canonical own_good.octets

  -- of a good entry
  made_merges : (e : Entry) → Good e → (u : List ℕ) → u ≡ slot_of e → Merges u o
  made_merges e ge u eu =
      record { long = ap length eu ∙ slot_long e ge; is_sound = ap sound eu ∙ slot_sound e ge; other_long = m.other_long; was_sound = m.was_sound }

  seen_good : Good (with_seen (entry_of o) (entry_of s))
  seen_good = good_with_seen (entry_of s) (entry_of o) own_good other_good

  pub seen_merges : (u : List ℕ) → u ≡ slot_of (with_seen (entry_of o) (entry_of s)) → Merges u o
  seen_merges u eu = made_merges (with_seen (entry_of o) (entry_of s)) seen_good u eu

  module _ (u : List ℕ) (eu : u ≡ slot_of (with_seen (entry_of o) (entry_of s))) (v : List ℕ) (ev : v ≡ slot_of (with_later_gossip (entry_of o) (entry_of u))) where
    entry_seen : entry_of u ≡ with_seen (entry_of o) (entry_of s)
    entry_seen = ap entry_of eu ∙ entry_back (with_seen (entry_of o) (entry_of s)) seen_good

    gossip_good : Good (with_later_gossip (entry_of o) (with_seen (entry_of o) (entry_of s)))
    unfolding with_seen entry_of
    gossip_good = good_with_gossip (with_seen (entry_of o) (entry_of s)) (entry_of o) seen_good other_good

    slot_gossip : v ≡ slot_of (with_later_gossip (entry_of o) (with_seen (entry_of o) (entry_of s)))
    slot_gossip = ev ∙ rw entry_seen

    pub gossip_merges : Merges v o
    gossip_merges = made_merges (with_later_gossip (entry_of o) (with_seen (entry_of o) (entry_of s))) gossip_good v slot_gossip

    entry_gossip : entry_of v ≡ with_later_gossip (entry_of o) (with_seen (entry_of o) (entry_of s))
    entry_gossip = ap entry_of slot_gossip ∙ entry_back (with_later_gossip (entry_of o) (with_seen (entry_of o) (entry_of s))) gossip_good

    pub all_merged : (w : List ℕ) → w ≡ slot_of (with_later_direct (entry_of o) (entry_of v)) → w ≡ slot_of (merged (entry_of s) (entry_of o))
    unfolding with_seen with_later_gossip with_later_direct merged
    all_merged w ew = ew ∙ ap (λ (e : Entry). slot_of (with_later_direct (entry_of o) e)) entry_gossip

pub ruleset merging = (seen_merges, gossip_merges, all_merged, rules)
