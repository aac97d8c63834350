-- SCOPE, R1 and R2: what the check tells of a table, slot by slot. These are words of statements about tables; no contract cites them.
--     TableBy, SoundTable    of whole slots, each of them right; by the rule in force
--     BrokenBy, Broken       slot i is the lowest that is neither free nor sound, in a table of whole slots; by the rule in force
use Rattle.std.specs.Prelude.{ℕ, ◌<◌, ◌≡◌, true, false, List}
use Rattle.slots.specs.declared.Spelling.{Spelling}
use Rattle.slots.specs.declared.Spelling.TheVariants.{Canonical}
use Rattle.table.specs.Table.{slots, right_by, whole}

-- T13: a table that the check answers with 0: whole slots, each of them free or sound
pub record TableBy (how : Spelling) (t : List ℕ) : Type 0 where
  pub whole_slots : whole t ≡ true
  pub each : (i : ℕ) → i < slots t → right_by how t i ≡ true

abbrev pub SoundTable : List ℕ → Type 0
SoundTable t = TableBy Canonical t

-- R2: slot i of a table of whole slots is neither free nor sound, and each lower one is
pub record BrokenBy (how : Spelling) (t : List ℕ) (i : ℕ) : Type 0 where
  pub whole_slots : whole t ≡ true
  pub within : i < slots t
  pub not_right : right_by how t i ≡ false
  pub lower : (j : ℕ) → j < i → right_by how t j ≡ true

abbrev pub Broken : List ℕ → ℕ → Type 0
Broken t i = BrokenBy Canonical t i
