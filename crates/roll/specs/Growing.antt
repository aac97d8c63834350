-- A roll that grows at the front of lent memory (G4, R8), and its index with it. How far they go says a `Rolled`.
--     in_roll   the addresses of the roll
--     Kept      the memory has a roll of plain addresses, and its index
--     Roomy     the memory has room for addresses; a place in it is a number of 16 bits
--     Adds      what is asked for where addresses are added
--     Grew      what the roll is then
use Rattle.std.specs.Prelude.{ℕ, ◌≤◌, ◌≡◌, true, List, ◌++◌, length, take}
use Rattle.octets.specs.Tests.{every}
use Rattle.address.specs.Address.{plain}
use Rattle.roll.specs.Roll.{rolled, unrolled}
use Rattle.roll.specs.Index.{tags_of, places_from}
use Rattle.roll.specs.declared.Rolled.{Rolled}

abbrev pub in_roll : Rolled → List ℕ → List (List ℕ)
in_roll at roll = unrolled (take at.end roll)

pub record Kept (roll tags places : List ℕ) (at : Rolled) : Type 0 where
  pub is : take at.end roll ≡ rolled (in_roll at roll)
  pub long : at.end ≡ length (rolled (in_roll at roll))
  pub count : at.many ≡ length (in_roll at roll)
  pub tagged : take at.many tags ≡ tags_of (in_roll at roll)
  pub placed : take at.many places ≡ places_from 0 (in_roll at roll)
  pub plainly : every plain (in_roll at roll) ≡ true

pub record Roomy (list : List (List ℕ)) (roll tags places : List ℕ) : Type 0 where
  pub octets : length (rolled list) ≤ length roll
  pub short : length roll ≤ 65536
  pub numbers : length list ≤ length tags
  pub spots : length list ≤ length places

pub record Adds (roll tags places : List ℕ) (at : Rolled) (more : List (List ℕ)) : Type 0 where
  pub kept : Kept roll tags places at
  pub plainly : every plain more ≡ true
  pub roomy : Roomy (in_roll at roll ++ more) roll tags places

-- the roll is longer by these addresses: roll and `at` are the memory as it came and how far it went, out and r are those afterwards
pub record Grew (roll : List ℕ) (at : Rolled) (more : List (List ℕ)) (out : List ℕ) (r : Rolled) : Type 0 where
  pub grown : in_roll r out ≡ in_roll at roll ++ more
