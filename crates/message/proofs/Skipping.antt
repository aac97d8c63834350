-- G2: where gossip is not taken, the payload says nothing.
--     skipped_rows        rows 3 to 7 are those of the message without it
--     skipped_message     and so is what the message brings
-- Assumes nothing.
use Prim.Native.Nat.{ℕ}
use mathlib.Core.Path.{◌≡◌}
use mathlib.Core.Bool.{false}
use mathlib.Core.List.{List, []}
use Rattle.settings.specs.Settings.{taken}
use Rattle.settings.specs.declared.Gossip.{Gossip}
use Rattle.message.specs.Message.{payload_in, message_rows, message_of}

module _ (receipt : ℕ) (outer payload : List ℕ) (g : Gossip) (skips : taken g ≡ false) where
  pub skipped_rows : message_rows receipt outer payload g ≡ message_rows receipt outer [] g
  unfolding message_rows
  skipped_rows = rw skips

  pub skipped_message : (most : ℕ) → message_of most receipt outer payload g ≡ message_of most receipt outer [] g
  unfolding message_of payload_in
  skipped_message most = rw (payload_in, skips)
