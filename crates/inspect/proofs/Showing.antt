-- One entry by its slot: the ways through the code, and what comes with each answer.
--     too_few, enough       fewer than eleven numbers are lent, or not
--     the ruleset           showing, for `entry`
--     refused_untouched     a refusal leaves the lent numbers as they were (R32)
--     done_there            success: the numbers of the slot stand in front of the rest
--     index_lowest          the index with 2 is that of the lowest slot that is neither free nor sound
-- Assumes nothing.
use Prim.Native.Nat.{ℕ, ◌<◌, ◌≤◌}
use mathlib.Core.Path.{◌≡◌, refl}
use mathlib.Core.Bool.{true, false}
use mathlib.Core.List.{List, [], ◌∷◌}
use Rattle.std.specs.Prelude.{Option, Ok, Err}
use borrow.Author.Tests.{le-leb, lt-leb}
use lib.Dec.{leb}
use lib.ListN.{length}
use Rattle.octets.specs.Written.{onto}
use Rattle.refusals.specs.Rows.{◌unless◌, answer_of, some_holds}
use Rattle.refusals.specs.declared.Refusal.{Refusal}
use Rattle.refusals.specs.declared.Refusal.TheVariants.{BrokenSlot, OutputLength}
use Rattle.refusals.proofs.Rows.{front_only, refused_is, done_is, answer_refused, answer_done, rows}
use Rattle.slots.specs.declared.Spelling.TheVariants.{Canonical}
use Rattle.table.specs.Slotwise.{Broken}
use Rattle.entry.specs.Shown.{shown_count, shown_at}
use Rattle.inspect.specs.Inspecting.{table_rows, showing_rows, refused_showing, left_by_showing}
use Rattle.inspect.proofs.Tables.{lowest_broken}

module _ (room : ℕ) where
  pub too_few : room < shown_count → leb shown_count room ≡ false
  too_few l = lt-leb shown_count room l

  pub enough : shown_count ≤ room → leb shown_count room ≡ true
  enough l = le-leb shown_count room l

pub ruleset showing = (too_few, enough, rows)

-- what comes with each answer
module _ (t : List ℕ) (i : ℕ) (d : List ℕ) where
  abbrev refusal : Option Refusal
  refusal = refused_showing t (length d)

  pub refused_untouched : (r : Refusal) → answer_of refusal ≡ Err r → left_by_showing t i d ≡ d
  unfolding left_by_showing
  refused_untouched r a = refused_is (λ (x : Refusal). d) (onto (shown_at t i) d) refusal r (answer_refused refusal r a)

  pub done_there : answer_of refusal ≡ Ok tt → left_by_showing t i d ≡ onto (shown_at t i) d
  unfolding left_by_showing
  done_there a = done_is (λ (x : Refusal). d) (onto (shown_at t i) d) refusal (answer_done refusal a)

  pub index_lowest : (j : ℕ) → answer_of refusal ≡ Err (BrokenSlot j) → Broken t j
  unfolding refused_showing showing_rows some_holds
  index_lowest j a =
      lowest_broken Canonical t j (front_only (table_rows t) ((OutputLength unless leb shown_count (length d)) ∷ []) (BrokenSlot j) refl (answer_refused refusal (BrokenSlot j) a))
