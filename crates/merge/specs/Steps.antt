-- The steps in which the code merges two entries (T18), one for each part of an entry.
--     with_seen, with_later_gossip, with_later_direct    the entry, with one part of the other where that is later
--     Merges                                             what is asked for: a sound slot, and another that was sound by the old rule
use Rattle.std.specs.Prelude.{ℕ, ◌≡◌, true, List, length}
use Rattle.heads.specs.Entry.{Direct, Gossip, Entry}
use Rattle.slots.specs.Slot.{slot_length, sound_by, sound}
use Rattle.slots.specs.declared.Spelling.TheVariants.{Ascii}
use Rattle.merge.specs.Merging.{later_of}

unfoldable pub with_seen : Entry → Entry → Entry
with_seen other e =
    record { address = e.address; last_seen = later_of (λ (t : ℕ). t) e.last_seen other.last_seen; direct = e.direct; gossip = e.gossip }

unfoldable pub with_later_gossip : Entry → Entry → Entry
with_later_gossip other e =
    record { address = e.address; last_seen = e.last_seen; direct = e.direct; gossip = later_of (λ (g : Gossip). g.timestamp) e.gossip other.gossip }

unfoldable pub with_later_direct : Entry → Entry → Entry
with_later_direct other e =
    record { address = e.address; last_seen = e.last_seen; direct = later_of (λ (d : Direct). d.timestamp) e.direct other.direct; gossip = e.gossip }

pub record Merges (s other : List ℕ) : Type 0 where
  pub long : length s ≡ slot_length
  pub is_sound : sound s ≡ true
  pub other_long : length other ≡ slot_length
  pub was_sound : sound_by Ascii other ≡ true
