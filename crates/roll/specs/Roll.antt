-- SCOPE, G4 and R8: a roll, which is addresses in lent memory, each ended by an octet that no address has. The recipients of a message are kept so,
-- and the addresses that are new with it. Addresses stand there as they were given; they are compared in canonical form (L8), by `among` of the
-- crate addresslist.
--     ender              the octet that ends an address
--     entry, rolled      the roll of a list of addresses
--     unrolled           the addresses of a roll, whatever octets it has
--     listed_in          the addresses of a list, none where it is unreadable
use Rattle.std.specs.Prelude.{ℕ, true, false, List, [], ◌∷◌, ◌++◌, eqb}
use Rattle.octets.specs.Options.{or_else}
use Rattle.addresslist.specs.List.{addresses}

-- a zero: a control octet, which no plain address has (L6, L7)
abbrev pub ender : ℕ
ender = 0

-- an address and what ends it
unfoldable pub entry : List ℕ → List ℕ
entry a = a ++ (ender ∷ [])

-- the roll of some addresses
unfoldable pub rolled : List (List ℕ) → List ℕ
rolled [] = []
rolled (a ∷ rest) = entry a ++ rolled rest

-- an octet more in front of the first address; with no address it stands before a rest that nothing ends, which is none
unfoldable pub lengthened : ℕ → List (List ℕ) → List (List ℕ)
lengthened x [] = []
lengthened x (a ∷ rest) = (x ∷ a) ∷ rest

-- the addresses of a roll, each up to what ends it
unfoldable pub unrolled : List ℕ → List (List ℕ)
unrolled [] = []
unrolled (x ∷ s) = elim (eqb x ender) [ true ↦ [] ∷ unrolled s | false ↦ lengthened x (unrolled s) ]

-- G4, L18: the addresses of a list; an unreadable one gives none, as does one without addresses
unfoldable pub listed_in : List ℕ → List (List ℕ)
listed_in s = or_else [] (addresses s)
