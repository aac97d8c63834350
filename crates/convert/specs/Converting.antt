-- SCOPE, T16 to T18: a table of the old rule brought to the canonical form in force.
--     form_of, has_form         the form that the address of a slot gets; a used slot with this form
--     joined, gathered          what the first n slots have of a form, merged in slot order
--     leads                     the lowest slot of its group
--     slot_for, converted_at    the slot of an entry, or a free one; slot i once the first n are converted
--     table_of, converted       a table by its slots; the whole table converted
--     converting_rows .. left_by_converting    the call: its refusals, and the table that it leaves
use Rattle.std.specs.Prelude.{ℕ, zero, suc, Bool, true, false, not, ◌&&◌, List, [], ◌++◌}
use Rattle.std.specs.Prelude.{Option, Some, None}
use Rattle.octets.specs.Octets.{same_octets}
use Rattle.refusals.specs.Rows.{Row, first_of, unless_refused}
use Rattle.refusals.specs.declared.Refusal.{Refusal}
use Rattle.address.specs.Address.{canonical}
use Rattle.heads.specs.Entry.{Entry, renamed}
use Rattle.slots.specs.Slot.{free_slot, address_of, marked}
use Rattle.slots.specs.Entry.{entry_of, slot_of}
use Rattle.slots.specs.declared.Spelling.TheVariants.{Ascii}
use Rattle.table.specs.Table.{slots, slot_at, lowest, is_at}
use Rattle.merge.specs.Merging.{merged}
use Rattle.inspect.specs.Inspecting.{table_rows_by}

-- T17: the form that the address of a slot gets
unfoldable pub form_of : List ℕ → List ℕ
form_of s = canonical (address_of s)

-- T17: a used slot whose address gets the form a
unfoldable pub has_form : List ℕ → List ℕ → Bool
has_form a s = marked s && same_octets (form_of s) a

-- T18: an entry joined to what lower slots have
unfoldable pub joined : Option Entry → Entry → Entry
joined None e = e
joined (Some lower) e = merged lower e

-- T18: the entries of the first n slots with the form a, merged in slot order; none where there is no such slot
unfoldable pub gathered : List ℕ → List ℕ → ℕ → Option Entry
gathered a t zero = None
gathered a t (suc n) =
    elim (has_form a (slot_at t n)) [
      | true ↦ Some (joined (gathered a t n) (renamed a (entry_of (slot_at t n))))
      | false ↦ gathered a t n
    ]

-- T17: slot i is used, and no lower slot has its form
unfoldable pub leads : List ℕ → ℕ → Bool
leads t i = marked (slot_at t i) && not (is_at (lowest (has_form (form_of (slot_at t i))) t 0 i))

-- T4: the slot of an entry; a free one where there is none
unfoldable pub slot_for : Option Entry → List ℕ
slot_for None = free_slot
slot_for (Some e) = slot_of e

-- T17: slot i, where the first n slots are converted: the lowest of a group holds what these have of its form, and each other one is free
unfoldable pub converted_at : List ℕ → ℕ → ℕ → List ℕ
converted_at t n i = slot_for (elim (leads t i) [ true ↦ gathered (form_of (slot_at t i)) t n | false ↦ None ])

-- T1: n slots, one behind the other
unfoldable pub table_of : (ℕ → List ℕ) → ℕ → List ℕ
table_of slot zero = []
table_of slot (suc n) = table_of slot n ++ slot n

-- T17: all slots converted, each in its place
unfoldable pub converted : List ℕ → List ℕ
converted t = table_of (converted_at t (slots t)) (slots t)

-- T16: rows 1 and 2, by the old rule
unfoldable pub converting_rows : List ℕ → List Row
converting_rows t = table_rows_by Ascii t

-- T16, R31: the first of these rows that holds
unfoldable pub refused_converting : List ℕ → Option Refusal
refused_converting t = first_of (converting_rows t)

-- T17, R32: the table afterwards; with a refusal it stays as it was
unfoldable pub left_by_converting : List ℕ → List ℕ
left_by_converting t = unless_refused (refused_converting t) t (converted t)
