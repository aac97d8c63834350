-- An address looked for in a table by its canonical form.
--     locate_there                 what `locate` answers
--     located, located_time        what an answer tells, and that its time is in range
--     locating                     what `locate` asks
-- Assumes nothing.
use Prim.Native.Nat.{ℕ, ◌≤◌}
use mathlib.Core.Path.{◌≡◌, sym, ap, ◌∙◌}
use mathlib.Core.List.{List}
use borrow.Author.Rules.{rules}
use lib.ListN.{take}
use Rattle.std.specs.Prelude.{Option, Some}
use Rattle.address.specs.Address.{canonical}
use Rattle.address.specs.Answers.{Fronts}
use Rattle.address.proofs.Forming.{fronts_end, fronts_count}
use Rattle.heads.specs.Head.{time_limit, head_of}
use Rattle.slots.proofs.Sounds.{sound_parts}
use Rattle.table.specs.Table.{checked}
use Rattle.table.specs.declared.Checked.TheVariants.{Sound}
use Rattle.lookup.specs.Held.{held_of}
use Rattle.lookup.specs.declared.Held.{Held}
use Rattle.lookup.proofs.Holding.{Tells, held_tells}

-- the form stands at the front of a buffer
pub locate_there : (t a out : List ℕ) (n : ℕ) → Fronts (canonical a) out n → (r : Option Held) → r ≡ held_of t (take n out) → r ≡ held_of t (canonical a)
locate_there t a out n f r h = h ∙ ap (held_of t) f.there

pub ruleset locating = (fronts_end, fronts_count, locate_there, rules)

-- an entry that was located in a checked table
module _ (t a : List ℕ) (s : checked t ≡ Sound) (r : Option Held) (p : r ≡ held_of t (canonical a)) (e : Held) (q : r ≡ Some e) where
  pub located : Tells t (canonical a) e
  located = held_tells t (canonical a) s e (sym p ∙ q)

  pub located_time : e.numbers.timestamp ≤ time_limit
  unfolding head_of
  located_time = rw located.numbers (sound_parts located.slot located.is_sound).direct_range
