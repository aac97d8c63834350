-- SCOPE, T15 and C10: what a table holds of an address, whichever slot that stands in.
--     entry_in   the entry of an address, none where it has none
--     Alike      two tables hold the same of every address
use Rattle.std.specs.Prelude.{ℕ, ◌≡◌, List}
use Rattle.std.specs.Prelude.{Option, Some, None}
use Rattle.heads.specs.Entry.{Entry}
use Rattle.slots.specs.Entry.{entry_of}
use Rattle.table.specs.Table.{slot_at, found}

-- T15: the entry of a canonical address
unfoldable pub entry_in : List ℕ → List ℕ → Option Entry
entry_in t a = elim (found t a) [ Some i ↦ Some (entry_of (slot_at t i)) | None ↦ None ]

-- C10: two tables that hold the same entry for every address. A word of statements, which no contract cites
abbrev pub Alike : List ℕ → List ℕ → Type 0
Alike t u = (a : List ℕ) → entry_in t a ≡ entry_in u a
