-- Which faults stand in a list, and in which order (SCOPE, O2, O4).
--     same_fault   two faults are one
--     is_in        a fault stands in a list
--     before       a fault belongs before another
--     rising       a list in the order of faults
use Rattle.std.specs.Prelude.{Bool, true, false, ◌&&◌, ◌||◌, List, [], ◌∷◌, eqb, ltb}
use Rattle.faults.specs.Faults.{Fault}

-- O2: the same block, place and kind
unfoldable pub same_fault : Fault → Fault → Bool
same_fault f g = eqb f.block g.block && eqb f.place g.place && eqb f.kind g.kind

unfoldable pub is_in : Fault → List Fault → Bool
is_in f [] = false
is_in f (g ∷ rest) = same_fault f g || is_in f rest

-- O4: in an earlier block, or in the same block at an earlier place, or at the same place of an earlier kind
unfoldable pub before : Fault → Fault → Bool
before f g =
    ltb f.block g.block
    || eqb f.block g.block && ltb f.place g.place
    || eqb f.block g.block && eqb f.place g.place && ltb f.kind g.kind

-- O4: each fault is before the next
unfoldable pub rising : List Fault → Bool
rising [] = true
rising (f ∷ []) = true
rising (f ∷ g ∷ rest) = before f g && rising (g ∷ rest)
