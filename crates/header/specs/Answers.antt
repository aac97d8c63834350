-- From the texts of `Header` to the places that the code answers (SCOPE, B14).
--     fields_from, step_at  the fields from a place on, and what stands there
--     field_at              the field that stands at given places
use Rattle.std.specs.Prelude.{ℕ, ◌+◌, ◌-◌, true, false, List, take, drop}
use Rattle.std.specs.Prelude.{Option}
use Rattle.runs.specs.Runs.{run_length}
use Rattle.runs.specs.declared.Class.TheVariants.{Name}
use Rattle.header.specs.Header.{over, raw_length, opens_field, unfolded, FieldText, fields}
use Rattle.header.specs.declared.Step.{Step}
use Rattle.header.specs.declared.Step.TheVariants.{Over, Broken, Field}

-- the fields from a place on where a line begins
unfoldable pub fields_from : List ℕ → ℕ → Option (List FieldText)
fields_from s at = fields (drop at s)

-- B14: where the name ends that begins at a place
abbrev pub name_end : List ℕ → ℕ → ℕ
name_end s at = at + run_length Name (drop at s)

-- B14: where the field ends whose value begins at a place, its last line's ending included
abbrev pub field_end : List ℕ → ℕ → ℕ
field_end s v = v + raw_length (drop v s)

-- B14: what stands at a place where a line begins: a field by its places, the block's end, or a line that makes it unreadable
unfoldable pub step_at : List ℕ → ℕ → Step
step_at s at =
    elim (over (drop at s)) [
      | true ↦ Over
      | false ↦ elim (opens_field (drop at s)) [
        | true ↦ Field (name_end s at) (name_end s at + 1) (field_end s (name_end s at + 1))
        | false ↦ Broken
      ]
    ]

-- B14: the field whose name lies from the place `at` to n, and its value as it stands from v to e
abbrev pub field_at : List ℕ → ℕ → ℕ → ℕ → ℕ → FieldText
field_at s at n v e = record { name = take (n - at) (drop at s); value = unfolded (take (e - v) (drop v s)) }
