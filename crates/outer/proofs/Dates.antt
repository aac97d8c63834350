-- The Date: by the one Date field and what it reads as.
--     dated_by, dated_none     the answer
--     date_effective           what a caller has of it: the effective date
--     date_in_range            which is in range
-- Assumes nothing.
use Prim.Native.Nat.{ℕ, ◌≤◌}
use mathlib.Core.Path.{◌≡◌, ap, ◌∙◌}
use mathlib.Core.List.{List}
use Rattle.std.specs.Prelude.{Option, Some, None}
use native.Mathlib.Omega.{arith}
use borrow.Author.Rules.{rules}
use lib.ListN.{length, take}
use Rattle.octets.specs.Written.{onto}
use Rattle.header.specs.Header.{FieldText}
use Rattle.header.proofs.Unfolding.{value_within, value_there, value_long}
use Rattle.date.specs.Date.{date_of, effective_date}
use Rattle.date.proofs.Effective.{effective_upto}
use Rattle.heads.specs.Head.{time_limit}
use Rattle.outer.specs.Outer.{date_by, said_date, date_in}

module _ (o : Option (List ℕ)) where
  pub dated_none : None ≡ o → None ≡ date_by o
  unfolding date_by
  dated_none p = rw (← p)

  -- its value was unfolded to the text
  pub dated_by : (v : List ℕ) → Some v ≡ o → (text d : List ℕ) (n : ℕ) → n ≡ length v → text ≡ onto v d
      → (r : Option ℕ) → r ≡ date_of (take n text) → r ≡ date_by o
  unfolding date_by
  dated_by v p text d n c t r h = h ∙ rw (value_there v d text n c t, ← p)

pub ruleset dating = (dated_none, dated_by, value_within, value_long, rules)

pub date_effective :
    (fs : List FieldText) (receipt : ℕ) (r : Option ℕ) → r ≡ said_date fs → effective_date r receipt ≡ date_in fs receipt
unfolding date_in
date_effective fs receipt r h =
    ap (λ (d : Option ℕ). effective_date d receipt) h

pub date_in_range : (fs : List FieldText) (receipt : ℕ) → receipt ≤ time_limit → date_in fs receipt ≤ time_limit
unfolding date_in
date_in_range fs receipt h = omega (arith, effective_upto (said_date fs) receipt)
