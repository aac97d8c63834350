-- The steps in which the code converts a table (T17): slot by slot, each brought to its form or merged into a lower one.
--     partly_at, partly     a slot, and the table, where the first n slots are converted
--     brought_at, brought   what one step makes of a table: slot i is free; a lower slot has its form; or it is the first with that form
--     Brings, Settles, Absorbs    what a step asks for: at slot i; where that is used and has the form a; where a lower slot has that form
use Rattle.std.specs.Prelude.{ℕ, ◌<◌, ◌≤◌, ◌≡◌, true, false, List, ltb, Option, Some, None}
use Rattle.heads.specs.Entry.{renamed}
use Rattle.slots.specs.Slot.{free_slot, marked, sound_by, sound}
use Rattle.slots.specs.Entry.{entry_of, slot_of}
use Rattle.slots.specs.declared.Spelling.TheVariants.{Ascii}
use Rattle.table.specs.Table.{most_slots, slots, slot_at, with_slot, has_address, lowest}
use Rattle.table.specs.Tagged.{TaggedTo}
use Rattle.merge.specs.Merging.{merged}
use Rattle.convert.specs.Converting.{form_of, converted_at, table_of}

-- slot i where the first n slots are converted; those from n on are as they were
unfoldable pub partly_at : List ℕ → ℕ → ℕ → List ℕ
partly_at t n i = elim (ltb i n) [ true ↦ converted_at t n i | false ↦ slot_at t i ]

unfoldable pub partly : List ℕ → ℕ → List ℕ
partly t n = table_of (partly_at t n) (slots t)

-- slot i, by where its form stands in the lower slots
unfoldable pub brought_at : List ℕ → ℕ → Option ℕ → List ℕ
brought_at u i (Some j) = with_slot (with_slot u i free_slot) j (slot_of (merged (entry_of (slot_at u j)) (entry_of (slot_at u i))))
brought_at u i None = with_slot u i (slot_of (renamed (form_of (slot_at u i)) (entry_of (slot_at u i))))

unfoldable pub brought : List ℕ → ℕ → List ℕ
brought u i =
    elim (marked (slot_at u i)) [
      | true ↦ brought_at u i (lowest (has_address (form_of (slot_at u i))) u 0 i)
      | false ↦ u
    ]

pub record Brings (u tags : List ℕ) (i : ℕ) : Type 0 where
  pub within : i < slots u
  pub few : slots u ≤ most_slots
  pub tagged : TaggedTo u tags i
  pub was_sound : marked (slot_at u i) ≡ true → sound_by Ascii (slot_at u i) ≡ true
  pub lower : (j : ℕ) → j < i → marked (slot_at u j) ≡ true → sound (slot_at u j) ≡ true

pub record Settles (u tags : List ℕ) (i : ℕ) (a : List ℕ) : Type 0 where
  pub brings : Brings u tags i
  pub used : marked (slot_at u i) ≡ true
  pub own : a ≡ form_of (slot_at u i)

pub record Absorbs (u : List ℕ) (j i : ℕ) : Type 0 where
  pub within : i < slots u
  pub few : slots u ≤ most_slots
  pub lower : j < i
  pub is_sound : sound (slot_at u j) ≡ true
  pub was_sound : sound_by Ascii (slot_at u i) ≡ true
