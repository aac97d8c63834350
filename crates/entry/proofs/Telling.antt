-- The numbers of a slot.
--     start_empty, start_there     where a part is said to start
--     past_unused, within_used     whether there is a used slot at an index
--     used_below, used_end         where there is one, it is one of the table's slots and ends within it
--     the ruleset                  telling, for `shown`
-- Assumes nothing.
use Prim.Native.Nat.{ℕ, ◌+◌, ◌*◌, ◌^◌, ◌<◌, ◌≤◌}
use mathlib.Core.Path.{◌≡◌, sym, ◌∙◌}
use mathlib.Core.Bool.{Bool, true, false}
use mathlib.Core.List.{List}
use native.Mathlib.Omega.{arith}
use borrow.Author.Rules.{rules}
use borrow.Author.Tests.{eq-eqb, ne_eqb, lt-ltb, le-ltb, ltb-true}
use lib.Dec.{ltb}
use lib.ListN.{length}
use Rattle.octets.proofs.Tests.{and_left}
use Rattle.slots.specs.Slot.{slot_length, marked}
use Rattle.table.specs.Table.{slots, slot_at}
use Rattle.table.proofs.Slots.{room}
use Rattle.entry.specs.Shown.{start_of, used_at}

module _ (at offset n : ℕ) where
  pub start_empty : n ≡ 0 → 0 ≡ start_of at offset n
  unfolding start_of
  start_empty e = rw (eq-eqb n 0 e)

  pub start_there : (n ≡ 0 → ⊥) → at + offset ≡ start_of at offset n
  unfolding start_of
  start_there d = rw (ne_eqb n 0 d)

module _ (t : List ℕ) (i : ℕ) where
  module _ (n : ℕ) (c : n ≡ slots t) where
    pub past_unused : n ≤ i → false ≡ used_at t i
    unfolding used_at
    past_unused l = rw (le-ltb i (slots t) (omega arith))

    pub within_used : i < n → (b : Bool) → b ≡ marked (slot_at t i) → b ≡ used_at t i
    unfolding used_at
    within_used l b e = rw (lt-ltb i (slots t) (omega arith)) e

  module _ (b : Bool) (e : b ≡ used_at t i) (q : b ≡ true) where
    pub used_below : i < slots t
    unfolding used_at
    used_below = ltb-true i (slots t) (and_left (ltb i (slots t)) (marked (slot_at t i)) (sym e ∙ q))

    pub used_end : length t < 2 ^ 64 → i * 4392 + slot_length < 2 ^ 64
    used_end l = omega (arith, room t i used_below)

pub ruleset telling = (used_below, used_end, rules)
