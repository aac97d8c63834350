-- SCOPE, U2 and R8: a message that was read, and the table after it. It is taken in full, or the table stays as it was.
--     room_rows     row 8
--     delivered     the table afterwards: where there is no room it stays as it was
use Rattle.std.specs.Prelude.{ℕ, true, false, List, [], ◌∷◌}
use Rattle.refusals.specs.Rows.{Row, ◌unless◌}
use Rattle.refusals.specs.declared.Refusal.TheVariants.{NoFreeSlot}
use Rattle.update.specs.Message.{Message, has_room, applied}

-- R8: the message needs more new entries than there are free slots
unfoldable pub room_rows : List ℕ → Message → List Row
room_rows t m = (NoFreeSlot unless has_room t m) ∷ []

-- U2: the table with the whole message in it, or as it was where there is no room
unfoldable pub delivered : List ℕ → Message → List ℕ
delivered t m = elim (has_room t m) [ true ↦ applied t m | false ↦ t ]
