-- SCOPE, page A, from entries to what the code reads and hands out: numbers of an entry, and parts of the table.
--     rated_as                the advice by the numbers of an entry
--     lower_of                the lower of two
--     no_part                 the empty part
--     key_part, target_part   where the key to encrypt to lies in the table: for an entry, and for an address
--     target_at               where that of the address at a place of a list lies
--     octets_at               the octets of a part
--     Within                  a part ends within the table
use Rattle.std.specs.Prelude.{Option, Some, None, ℕ, zero, suc, ◌+◌, ◌≤◌, true, false, List, [], ◌∷◌, length, take, drop}
use Rattle.heads.specs.declared.Head.{Head}
use Rattle.address.specs.Address.{canonical}
use Rattle.lookup.specs.Held.{held_of}
use Rattle.lookup.specs.declared.Held.{Held}
use Rattle.advice.specs.Advice.{stale}
use Rattle.advice.specs.declared.Advice.{Advice}
use Rattle.advice.specs.declared.Advice.TheVariants.{Disable, Discourage, Available, Encrypt}
use Rattle.advice.specs.declared.Part.{Part}

-- A2: the advice that an entry gets first, by its numbers: `rated` of Advice.antt
unfoldable pub rated_as : Head → Advice
rated_as n =
    elim n.direct [
      | true ↦ elim (stale n.last_seen n.timestamp) [ true ↦ Discourage | false ↦ Available ]
      | false ↦ elim n.gossip [ true ↦ Discourage | false ↦ Disable ]
    ]

-- A1, A5: the lower of two advices, from disable up to encrypt. That of a whole list is the lowest of the recipients'
unfoldable pub lower_of : Advice → Advice → Advice
lower_of Disable b = Disable
lower_of Discourage Disable = Disable
lower_of Discourage Discourage = Discourage
lower_of Discourage Available = Discourage
lower_of Discourage Encrypt = Discourage
lower_of Available Disable = Disable
lower_of Available Discourage = Discourage
lower_of Available Available = Available
lower_of Available Encrypt = Available
lower_of Encrypt b = b

-- A7: the empty part, whose start and length are 0
abbrev pub no_part : Part
no_part = record { start = 0; length = 0 }

-- A2, A6: the target key of an entry with these numbers, whose keys begin there; an empty part without one
unfoldable pub key_part : Head → ℕ → ℕ → Part
key_part n direct gossip =
    elim n.direct [
      | true ↦ record { start = direct; length = n.direct_length }
      | false ↦ elim n.gossip [ true ↦ record { start = gossip; length = n.gossip_length } | false ↦ no_part ]
    ]

-- A6, A7: the target key of what the table has of an address; an empty part where that is nothing
unfoldable pub part_in : Option Held → Part
part_in (Some e) = key_part e.numbers e.direct e.gossip
part_in None = no_part

-- A6: the target key for an address as it stands in a list, by its canonical form
unfoldable pub target_part : List ℕ → List ℕ → Part
target_part t a = part_in (held_of t (canonical a))

-- A6, A7, A10: the target key at a place of the list, the first being at 0; past the list the part is empty
unfoldable pub target_at : List ℕ → List (List ℕ) → ℕ → Part
target_at t [] place = no_part
target_at t (a ∷ rest) zero = target_part t a
target_at t (a ∷ rest) (suc place) = target_at t rest place

-- A6, A11: the octets of a part, which is no copy: so many octets of the table t, from the start on
unfoldable pub octets_at : List ℕ → Part → List ℕ
octets_at t p = take p.length (drop p.start t)

-- the part ends within the table: a word of statements, which no contract cites
abbrev pub Within : List ℕ → Part → Type 0
Within t p = p.start + p.length ≤ length t
