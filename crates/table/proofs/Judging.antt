-- Refusals 1 and 2 (R1, R2), one step at a time.
--     judged_on, judged_here           one slot
--     checked_slots, checked_length    a table of whole slots, and one that is not
--     whole_few                        it has at most 256 of them
-- Assumes nothing.
use Prim.Native.Nat.{ℕ, suc, ◌+◌, ◌%◌, ◌≤◌}
use mathlib.Core.Path.{◌≡◌}
use mathlib.Core.Bool.{true, false, ◌&&◌}
use mathlib.Core.List.{List}
use borrow.Author.Tests.{leb-true}
use lib.Dec.{leb, eqb}
use lib.ListN.{length}
use Rattle.octets.proofs.Tests.{and_right}
use Rattle.slots.specs.declared.Spelling.{Spelling}
use Rattle.table.specs.Table.{slots, right_by, whole, judged_by, checked_by}
use Rattle.table.specs.declared.Checked.TheVariants.{Length, Slot}

module _ (how : Spelling) (t : List ℕ) (i k : ℕ) where
  pub judged_on : right_by how t i ≡ true → judged_by how t i (suc k) ≡ judged_by how t (i + 1) k
  unfolding judged_by
  judged_on e = rw (judged_by, e)

  pub judged_here : right_by how t i ≡ false → judged_by how t i (suc k) ≡ Slot i
  unfolding judged_by
  judged_here e = rw (judged_by, e)

module _ (how : Spelling) (t : List ℕ) where
  pub checked_slots : whole t ≡ true → checked_by how t ≡ judged_by how t 0 (slots t)
  unfolding checked_by
  checked_slots e = rw (checked_by, e)

  pub checked_length : whole t ≡ false → checked_by how t ≡ Length
  unfolding checked_by
  checked_length e = rw (checked_by, e)

pub whole_few : (t : List ℕ) → whole t ≡ true → slots t ≤ 256
unfolding whole
whole_few t e = leb-true (slots t) 256 (and_right (eqb (length t % 4392) 0 && leb 1 (slots t)) (leb (slots t) 256) e)
