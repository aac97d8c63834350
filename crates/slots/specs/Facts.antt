-- SCOPE, T8 and T16, all but T8.3: what a sound slot satisfies, as facts. It is `sound_by` of Slot.antt, condition by condition, for statements about
-- slots.
--     SoundBy how s    the conditions, by either rule
--     Sound s          by the one in force
use Rattle.std.specs.Prelude.{ℕ, ◌<◌, ◌≤◌, ◌≡◌, true, false, List, drop}
use Rattle.octets.specs.Octets.{all_zero}
use Rattle.heads.specs.Head.{time_limit, part, address_length, bits, has_last_seen, has_direct, has_gossip, is_mutual, last_seen, timestamp, gossip_timestamp, direct_length, gossip_length}
use Rattle.slots.specs.declared.Spelling.{Spelling}
use Rattle.slots.specs.declared.Spelling.TheVariants.{Canonical}
use Rattle.slots.specs.Slot.{key_limit, mark, address_area, direct_area, gossip_area, address_of, spelled}

-- T8, in its order; T8.3, the lower slots, is the table's to say
pub record SoundBy (how : Spelling) (s : List ℕ) : Type 0 where
  -- T8.1
  pub opens : part 0 1 s ≡ mark
  -- T8.2, T16
  pub address : spelled how (address_of s) ≡ true
  -- T8.4
  pub low : bits s < 16
  pub zeros : all_zero (part 5 7 s) ≡ true
  pub zeros_too : all_zero (part 36 39 s) ≡ true
  -- T8.5
  pub seen_range : last_seen s ≤ time_limit
  pub direct_range : timestamp s ≤ time_limit
  pub gossip_range : gossip_timestamp s ≤ time_limit
  -- T8.6
  pub direct_length_fits : has_direct s ≡ true → (1 ≤ direct_length s) × (direct_length s ≤ key_limit)
  pub gossip_length_fits : has_gossip s ≡ true → (1 ≤ gossip_length s) × (gossip_length s ≤ key_limit)
  -- T8.7
  pub no_seen : has_last_seen s ≡ false → last_seen s ≡ 0
  pub without_direct : has_direct s ≡ false → (timestamp s ≡ 0) × (direct_length s ≡ 0)
  pub without_gossip : has_gossip s ≡ false → (gossip_timestamp s ≡ 0) × (gossip_length s ≡ 0)
  -- T8.8
  pub past_address : all_zero (drop (address_length s) (address_area s)) ≡ true
  pub past_direct : all_zero (drop (direct_length s) (direct_area s)) ≡ true
  pub past_gossip : all_zero (drop (gossip_length s) (gossip_area s)) ≡ true
  -- T8.9
  pub no_mutual : has_direct s ≡ false → is_mutual s ≡ false
  -- T8.10
  pub direct_seen : has_direct s ≡ true → (has_last_seen s ≡ true) × (timestamp s ≤ last_seen s)

abbrev pub Sound : List ℕ → Type 0
Sound s = SoundBy Canonical s
