-- One recipient's advice by the numbers of a slot.
--     direct_there .. gossip_absent  the halves of a slot's entry, by its bits
--     rated_of, prefers_of            of a sound slot: what its numbers say is what its entry says
-- Assumes nothing.
use Prim.Native.Nat.{ℕ}
use mathlib.Core.Path.{◌≡◌}
use mathlib.Core.Bool.{true, false}
use mathlib.Core.List.{List}
use Rattle.std.specs.Prelude.{Some, None}
use Rattle.octets.specs.Options.{or_else}
use Rattle.octets.proofs.Tests.{by_test}
use Rattle.heads.specs.Head.{has_last_seen, has_direct, has_gossip, is_mutual, last_seen, timestamp, gossip_timestamp, head_of}
use Rattle.slots.specs.Slot.{direct_key_of, gossip_key_of, sound}
use Rattle.slots.specs.Entry.{entry_of}
use Rattle.slots.specs.Facts.{Sound}
use Rattle.slots.proofs.Sounds.{sound_parts}
use Rattle.advice.specs.Advice.{direct_of, gossip_of, rated_by, rated, prefers_by}
use Rattle.advice.specs.Places.{rated_as}

-- the halves of a slot's entry
module _ (s : List ℕ) where
  pub direct_there : has_direct s ≡ true → direct_of (entry_of s) ≡ Some (record { timestamp = timestamp s; key = direct_key_of s; «mutual» = is_mutual s })
  unfolding direct_of entry_of
  direct_there d = rw d

  pub direct_absent : has_direct s ≡ false → direct_of (entry_of s) ≡ None
  unfolding direct_of entry_of
  direct_absent d = rw d

  pub gossip_there : has_gossip s ≡ true → gossip_of (entry_of s) ≡ Some (record { timestamp = gossip_timestamp s; key = gossip_key_of s })
  unfolding gossip_of entry_of
  gossip_there g = rw g

  pub gossip_absent : has_gossip s ≡ false → gossip_of (entry_of s) ≡ None
  unfolding gossip_of entry_of
  gossip_absent g = rw g

  seen_there : has_last_seen s ≡ true → or_else 0 (entry_of s).last_seen ≡ last_seen s
  unfolding entry_of or_else
  seen_there l = rw l

module _ (s : List ℕ) (e : sound s ≡ true) where
  parts : Sound s
  parts = sound_parts s e

  pub rated_of : rated_as (head_of s) ≡ rated (entry_of s)
  unfolding rated_as head_of rated rated_by
  rated_of =
      by_test (has_direct s)
      (λ d. rw (rated_as, d, rated, direct_there s d, seen_there s (parts.direct_seen d).0))
      (λ d.
      by_test (has_gossip s)
      (λ g. rw (rated_as, d, g, rated, direct_absent s d, gossip_there s g))
      (λ g. rw (rated_as, d, g, rated, direct_absent s d, gossip_absent s g)))

  pub prefers_of : (head_of s).«mutual» ≡ prefers_by (direct_of (entry_of s))
  unfolding head_of prefers_by
  prefers_of = by_test (has_direct s) (λ d. rw (direct_there s d)) (λ d. rw (direct_absent s d, parts.no_mutual d))
