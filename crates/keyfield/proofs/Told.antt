-- What the answer on a field says, as callers ask for it.
--     told_from, told_upto       where its address stands
--     told_field                 a valid field, its key in lent memory
--     told_spoiled               a spoiled field
-- Assumes nothing.
use Prim.Native.Nat.{ℕ, ◌≤◌}
use mathlib.Core.Path.{◌≡◌}
use mathlib.Core.List.{List}
use Rattle.std.specs.Prelude.{Option, Some, None}
use lib.ListN.{length}
use Rattle.keyfield.specs.Field.{field_of}
use Rattle.keyfield.specs.Answers.{ReadAt, ReadAs}
use Rattle.keyfield.specs.declared.Read.{Read}

module _ (limit : ℕ) (s key : List ℕ) (r : Option Read) (a : ReadAs limit s key r) where
  pub told_spoiled : r ≡ None → field_of limit s ≡ None
  unfolding ReadAs
  told_spoiled q = rw q at a

  module _ (f : Read) (q : r ≡ Some f) where
    pub told_field : ReadAt limit s key f
    unfolding ReadAs
    told_field = rw q at a

    pub told_from : f.address.from ≤ f.address.to
    told_from = told_field.stands.order

    pub told_upto : f.address.to ≤ length s
    told_upto = told_field.stands.upto
