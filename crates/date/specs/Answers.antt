-- The answers of the code, as the definitions of Date.antt have them.
--     read_in              what a place in the text s stands for: the octets from there on
use Rattle.std.specs.Prelude.{ℕ, List, drop}
use Rattle.std.specs.Prelude.{Option, Some, None}
use Rattle.date.specs.Date.{Read, got, missing}
use Rattle.date.specs.declared.PartRead.{PartRead}

unfoldable pub read_in : List ℕ → Option PartRead → Read
read_in s (Some p) = got p.value (drop p.to s)
read_in s None = missing
