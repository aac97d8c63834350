-- SCOPE, U1 and U2: processing a message. Refusals 1 to 8 in order, and the table afterwards.
--     processing_rows, refused_processing     all rows
--     left_by_processing                      what the table holds afterwards
use Rattle.std.specs.Prelude.{ℕ, List, ◌++◌}
use Rattle.std.specs.Prelude.{Option}
use Rattle.refusals.specs.Rows.{Row, first_of, unless_refused}
use Rattle.refusals.specs.declared.Refusal.{Refusal}
use Rattle.settings.specs.declared.Gossip.{Gossip}
use Rattle.inspect.specs.Inspecting.{table_rows}
use Rattle.update.specs.Message.{applied}
use Rattle.message.specs.Message.{message_rows, message_of}
use Rattle.delivery.specs.Delivery.{room_rows}
use Rattle.slots.specs.Slot.{key_limit}

-- U2: the rows of the table (R1, R2), those of the message (R3, R4, R5, R6, R7), and that of the room (R8), in this order
unfoldable pub processing_rows : List ℕ → ℕ → List ℕ → List ℕ → Gossip → List Row
processing_rows t receipt outer payload g =
    table_rows t ++ (message_rows receipt outer payload g ++ room_rows t (message_of key_limit receipt outer payload g))

-- U2, R31: the first of these rows that holds
unfoldable pub refused_processing : List ℕ → ℕ → List ℕ → List ℕ → Gossip → Option Refusal
refused_processing t receipt outer payload g = first_of (processing_rows t receipt outer payload g)

-- U2, R32: where none holds the message is taken in full; with a refusal the table stays as it was
unfoldable pub left_by_processing : List ℕ → ℕ → List ℕ → List ℕ → Gossip → List ℕ
left_by_processing t receipt outer payload g =
    unless_refused (refused_processing t receipt outer payload g) t (applied t (message_of key_limit receipt outer payload g))
