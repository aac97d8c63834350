-- C11 in words of the calls: `process` one call after the other, in two orders.
--     left_after, answer_fits        on a sound table a call leaves what its message does
--     call_good                      what a call brings is good
--     calls_in_any_order             the whole of C11
--     broken_stays                   any other table stays as it is, in whatever order
-- Assumes nothing.
use Prim.Native.Nat.{ℕ}
use mathlib.Core.Path.{◌≡◌, refl, sym, ap, ◌∙◌}
use mathlib.Core.Bool.{true, false}
use mathlib.Core.List.{List, [], ◌∷◌, Memᴰ, Permᴰ}
use Rattle.std.specs.Prelude.{Option, Some, None, Ok, Err}
use native.Mathlib.Omega.{arith}
use Rattle.octets.specs.Octets.{AllOctets}
use Rattle.octets.proofs.Tests.{by_test}
use Rattle.refusals.specs.Rows.{first_of}
use Rattle.refusals.specs.declared.Refusal.{Refusal}
use Rattle.refusals.specs.declared.Refusal.TheVariants.{NoFreeSlot}
use Rattle.refusals.proofs.Rows.{by_refusal, refused_is, done_is}
use Rattle.slots.specs.declared.Spelling.TheVariants.{Canonical}
use Rattle.table.specs.Table.{checked}
use Rattle.table.specs.declared.Checked.TheVariants.{Sound}
use Rattle.inspect.specs.Inspecting.{table_rows}
use Rattle.inspect.proofs.Tables.{rows_sound}
use Rattle.update.specs.Message.{Message, GoodMessage, has_room}
use Rattle.delivery.specs.Delivery.{delivered}
use Rattle.slots.specs.Slot.{key_limit}
use Rattle.message.specs.Message.{message_rows, message_of}
use Rattle.message.proofs.InOrder.{in_order, message_good}
use Rattle.process.specs.Processing.{refused_processing}
use Rattle.process.proofs.Outcomes.{unsound_first, message_refused, message_fits, message_full, refused_left, done_left}
use Rattle.order.specs.Fetching.{slot_form, after, fits, Agree, SayTheSame}
use Rattle.order.specs.Calls.{Call, OctetCall, left_by_all, answer_to, left_by, message_in, slot_calling, table_after, answers}
use Rattle.order.proofs.Forms.{slots_lawful}
use Rattle.order.proofs.FetchOrder.{say_the_same}
use Rattle.order.proofs.CallOrder.{Delivers, calls_alike}

-- what a call brings, by the rows for which no table is asked
module _ (c : Call) where
  abbrev early : Option Refusal
  early = first_of (message_rows c.receipt c.outer c.payload c.setting)

  abbrev message : Message
  message = message_of key_limit c.receipt c.outer c.payload c.setting

  brings_none : (r : Refusal) → early ≡ Some r → message_in c ≡ None
  unfolding message_in
  brings_none r e = refused_is (λ (x : Refusal). None) (Some message) early r e

  pub brings_message : early ≡ None → message_in c ≡ Some message
  unfolding message_in
  brings_message e = done_is (λ (x : Refusal). None) (Some message) early e

  pub call_good : OctetCall c → (m : Message) → message_in c ≡ Some m → GoodMessage m
  call_good o m e =
      by_refusal early
      (λ r q. let z : None ≡ Some m = sym (brings_none r q) ∙ e in let n : ◌≡◌ {A = ℕ} 0 1 = cc in absurd (omega arith))
      (λ q.
      let z : Some message ≡ Some m = sym (brings_message q) ∙ e in
      let p : message ≡ m = cc in
      rw (sym p) (message_good c.receipt c.outer c.payload c.setting (in_order c.receipt c.outer c.payload c.setting q) key_limit (omega arith) o.outer o.payload))

  -- what it does to a sound table
  module _ (t : List ℕ) (s : checked t ≡ Sound) where
    abbrev refusal : Option Refusal
    refusal = refused_processing t c.receipt c.outer c.payload c.setting

    -- the three ways that a call can go: refused by 3 to 7, or by 8, or not at all
    by_way : {P : Type 0} → ((r : Refusal) → early ≡ Some r → refusal ≡ Some r → P)
        → (early ≡ None → has_room t message ≡ false → refusal ≡ Some NoFreeSlot → P)
        → (early ≡ None → has_room t message ≡ true → refusal ≡ None → P) → P
    by_way refused full done =
        by_refusal early
        (λ r e. refused r e (message_refused t c.receipt c.outer c.payload c.setting s r e))
        (λ e.
        by_test (has_room t message)
        (λ h. done e h (message_fits t c.receipt c.outer c.payload c.setting s e h))
        (λ h. full e h (message_full t c.receipt c.outer c.payload c.setting s e h)))

    stays : (r : Refusal) → refusal ≡ Some r → left_by t c ≡ t
    unfolding left_by
    stays r e = refused_left t c.receipt c.outer c.payload c.setting r e

    left_after : left_by t c ≡ after slot_form t (message_in c)
    unfolding after delivered left_by
    left_after =
        by_way
        (λ r e q. rw (brings_none r e) (stays r q))
        (λ e h q. rw (brings_message e, delivered, h) (stays NoFreeSlot q))
        (λ e h q. rw (brings_message e, delivered, h) (done_left t c.receipt c.outer c.payload c.setting q))

    answer_fits : (Err NoFreeSlot ≡ answer_to t c → ⊥) → fits slot_form t (message_in c) ≡ true
    unfolding fits answer_to
    answer_fits n =
        by_way
        (λ r e q. rw (brings_none r e))
        (λ e h q. absurd (n (sym (refused_is Err (Ok tt) refusal NoFreeSlot q))))
        (λ e h q. rw (brings_message e) h)

process_delivers : Delivers slot_form slot_calling
process_delivers = record { leaves = λ t h c. left_after c t h.sound; fitting = λ t h c. answer_fits c t h.sound; good = call_good }

-- C11: two orders of the same calls, from one sound table. If 8 is among the answers of neither, and any two messages that bring an address
-- something at the same date bring it the same, the tables that they end with say the same.
pub calls_in_any_order : (t : List ℕ) (cs ds : List Call) → AllOctets t → checked t ≡ Sound → ((c : Call) → Memᴰ c cs → OctetCall c)
    → Permᴰ cs ds
    → (Memᴰ (Err NoFreeSlot) (answers t cs) → ⊥) → (Memᴰ (Err NoFreeSlot) (answers t ds) → ⊥)
    → ((c d : Call) → Memᴰ c cs → Memᴰ d cs → (m n : Message) → message_in c ≡ Some m → message_in d ≡ Some n → Agree m n)
    → SayTheSame (table_after t cs) (table_after t ds)
calls_in_any_order t cs ds o s octets p n₁ n₂ agree =
    say_the_same (table_after t cs) (table_after t ds)
    (calls_alike slot_form slots_lawful slot_calling process_delivers t cs ds (record { octets = o; sound = s }) octets p n₁ n₂ agree)

-- rows 1 and 2: every call refuses a table that is not sound, and leaves it
pub broken_stays : (t : List ℕ) (cs : List Call) → (checked t ≡ Sound → ⊥) → table_after t cs ≡ t
unfolding left_by_all left_by
broken_stays t [] n = refl
broken_stays t (c ∷ rest) n =
    ap (λ (u : List ℕ). table_after u rest)
    (by_refusal (first_of (table_rows t))
    (λ r e. refused_left t c.receipt c.outer c.payload c.setting r (unsound_first t c.receipt c.outer c.payload c.setting r e))
    (λ e. absurd (n (rows_sound Canonical t e))))
    ∙ broken_stays t rest n
