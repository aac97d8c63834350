-- The index of a roll: for each address its tag and where it begins, so that addresses are looked for among numbers (G5, R8).
--     tags_of       the tags of addresses, each that of the canonical form
--     places_from   where addresses begin that stand in a roll from a place on
--     address_at    the address that begins at a place
--     Indexed       tags and places that are those of a roll
use Rattle.std.specs.Prelude.{ℕ, ◌+◌, ◌≡◌, List, [], ◌∷◌, length, take, drop}
use Rattle.octets.specs.Finding.{length_before}
use Rattle.tags.specs.Tags.{tag_of}
use Rattle.address.specs.Address.{canonical}
use Rattle.roll.specs.Roll.{ender, entry, unrolled}

-- L8: the tag of each address is that of its canonical form, so that addresses that are the same have one tag
unfoldable pub tags_of : List (List ℕ) → List ℕ
tags_of [] = []
tags_of (a ∷ rest) = tag_of (canonical a) ∷ tags_of rest

unfoldable pub places_from : ℕ → List (List ℕ) → List ℕ
places_from at [] = []
places_from at (a ∷ rest) = at ∷ places_from (at + length (entry a)) rest

-- the octets from a place on, up to what ends the address there
unfoldable pub address_at : List ℕ → ℕ → List ℕ
address_at roll place = take (length_before ender (drop place roll)) (drop place roll)

pub record Indexed (roll tags places : List ℕ) : Type 0 where
  pub tagged : tags ≡ tags_of (unrolled roll)
  pub placed : places ≡ places_from 0 (unrolled roll)
