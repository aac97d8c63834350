-- G2: where gossip is not taken, the payload changes nothing, and 7 is not given.
--     skipped_refusal, skipped_left    the outcome is that of the call without a payload
--     no_seven                         the refusal is another than 7, or there is none
-- Assumes nothing.
use Rattle.std.specs.Prelude.{Err}
use Prim.Native.Nat.{ℕ}
use mathlib.Core.Path.{◌≡◌}
use mathlib.Core.Bool.{false}
use mathlib.Core.List.{List, []}
use Rattle.refusals.specs.Rows.{answer_of, some_holds}
use Rattle.refusals.specs.declared.Refusal.TheVariants.{PayloadBlock}
use Rattle.refusals.proofs.Rows.{never_given, answer_refused}
use Rattle.settings.specs.Settings.{taken}
use Rattle.settings.specs.declared.Gossip.{Gossip}
use Rattle.inspect.specs.Inspecting.{table_rows_by}
use Rattle.slots.specs.Slot.{key_limit}
use Rattle.message.specs.Message.{message_rows, message_of}
use Rattle.message.proofs.Skipping.{skipped_rows, skipped_message}
use Rattle.delivery.specs.Delivery.{room_rows}
use Rattle.process.specs.Processing.{processing_rows, refused_processing, left_by_processing}

module _ (t : List ℕ) (receipt : ℕ) (outer payload : List ℕ) (g : Gossip) (skips : taken g ≡ false) where
  same_message : message_of key_limit receipt outer payload g ≡ message_of key_limit receipt outer [] g
  same_message = skipped_message receipt outer payload g skips key_limit

  pub skipped_refusal : refused_processing t receipt outer payload g ≡ refused_processing t receipt outer [] g
  unfolding refused_processing processing_rows
  skipped_refusal = rw (skipped_rows receipt outer payload g skips, same_message)

  pub skipped_left : left_by_processing t receipt outer payload g ≡ left_by_processing t receipt outer [] g
  unfolding left_by_processing
  skipped_left = rw (skipped_refusal, same_message)

  pub no_seven : answer_of (refused_processing t receipt outer payload g) ≡ Err PayloadBlock → ⊥
  unfolding refused_processing processing_rows table_rows_by message_rows room_rows some_holds
  no_seven a =
      never_given (processing_rows t receipt outer payload g) PayloadBlock (rw skips)
      (answer_refused (refused_processing t receipt outer payload g) PayloadBlock a)
