-- What has been read where the key data stands last.
--     mutual_not, mutual_is       the preference
--     whole_none, whole_all       the address and the preference together
-- Assumes nothing.
use mathlib.Core.Path.{◌≡◌}
use mathlib.Core.Bool.{Bool, false}
use Rattle.std.specs.Prelude.{Option, Some, None}
use borrow.Author.Rules.{rules}
use Rattle.attributes.specs.declared.Bounds.{Bounds}
use Rattle.keyfield.specs.Field.{mutual_by}
use Rattle.keyfield.specs.Answers.{whole_of}
use Rattle.keyfield.specs.declared.Scanned.{Scanned}

module _ (preference : Option Bool) where
  pub mutual_not : preference ≡ None → false ≡ mutual_by preference
  mutual_not u = rw u

  pub mutual_is : (m : Bool) → preference ≡ Some m → m ≡ mutual_by preference
  mutual_is m u = rw u

  module _ (address : Option Bounds) (v : Bounds) where
    pub whole_none : (r : Option Scanned) → r ≡ None → address ≡ None → r ≡ whole_of address preference v
    unfolding whole_of
    whole_none r e u = rw (u, e)

    pub whole_all :
        (at : Bounds) (b : Bool) → address ≡ Some at → b ≡ mutual_by preference
        → Some (record { address = at; «mutual» = b; key_data = v }) ≡ whole_of address preference v
    unfolding whole_of
    whole_all at b u e = rw (u, e)

pub ruleset ending = (mutual_not, mutual_is, whole_none, whole_all, rules)
