-- Entries merged, by computing them (T18).
--     tie                  of halves with one timestamp that of the lower slot stands, and last seen is the larger one
--     zero_beats_absent    a half at time 0 stands against an absent one, from either side
-- Assumes nothing.
use mathlib.Core.Path.{◌≡◌, refl}
use mathlib.Core.Bool.{true, false}
use mathlib.Core.List.{[], ◌∷◌}
use Rattle.std.specs.Prelude.{Some, None}
use Rattle.octets.specs.Octets.{ascii}
use Rattle.heads.specs.Entry.{Entry}
use Rattle.merge.specs.Merging.{later_of, merged}

abbrev lower : Entry
lower =
    record {
      address = ascii "a@b";
      last_seen = Some 7;
      direct = Some (record { timestamp = 5; key = 1 ∷ []; «mutual» = true });
      gossip = None;
    }

abbrev higher : Entry
higher =
    record {
      address = ascii "a@b";
      last_seen = Some 9;
      direct = Some (record { timestamp = 5; key = 2 ∷ []; «mutual» = false });
      gossip = Some (record { timestamp = 0; key = 3 ∷ [] });
    }

tie : ((merged lower higher).last_seen ≡ Some 9) × ((merged lower higher).direct ≡ lower.direct) × ((merged higher lower).direct ≡ higher.direct)
unfolding merged later_of
tie = (refl, refl, refl)

zero_beats_absent : ((merged lower higher).gossip ≡ higher.gossip) × ((merged higher lower).gossip ≡ higher.gossip)
unfolding merged later_of
zero_beats_absent = (refl, refl)
