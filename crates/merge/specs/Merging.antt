-- SCOPE, T18: two entries of one address made one. The first is that of the lower slot.
--     later_of      of two things that may be absent, the one with the larger time
--     merged        the entry of both
use Rattle.std.specs.Prelude.{ℕ, true, false, ltb}
use Rattle.std.specs.Prelude.{Option, Some, None}
use Rattle.heads.specs.Entry.{Direct, Gossip, Entry}

-- T18: what is absent is below all that is present, and of equal ones the first stands
unfoldable pub later_of : {A : Type 0} → (A → ℕ) → Option A → Option A → Option A
later_of time None other = other
later_of time (Some x) None = Some x
later_of time (Some x) (Some y) = elim (ltb (time x) (time y)) [ true ↦ Some y | false ↦ Some x ]

-- T18: the larger last seen, and of either half the one with the larger timestamp, as a whole. T17: they have one address, which is the first's
unfoldable pub merged : Entry → Entry → Entry
merged e other =
    record {
      address = e.address;
      last_seen = later_of (λ (t : ℕ). t) e.last_seen other.last_seen;
      direct = later_of (λ (d : Direct). d.timestamp) e.direct other.direct;
      gossip = later_of (λ (g : Gossip). g.timestamp) e.gossip other.gossip;
    }
