-- SCOPE, C14: its examples, all of them in its order, in one table. Each is answered by computing the definitions.
--     Question, Answer        what the examples ask, and what can be answered
--     answered                the answer of the definitions
--     Example, examples       the table, with the answers of C14
--     Hold                    the definitions answer as C14 does
use Rattle.std.specs.Prelude.{ℕ, ◌+◌, ◌≡◌, false, List, [], ◌∷◌, ◌++◌}
use Prim.Native.String.{String}
use Rattle.std.specs.Prelude.{Option, Some, None}
use Rattle.octets.specs.Octets.{ascii}
use Rattle.header.specs.Header.{FieldText}
use Rattle.date.specs.Date.{date_of}
use Rattle.keyfield.specs.Field.{Field, field_of}
use Rattle.slots.specs.Slot.{key_limit}
use Rattle.heads.specs.Entry.{Entry}
use Rattle.fields.specs.Fields.{fields_in}
use Rattle.outer.specs.Outer.{sender_in}
use Rattle.keys.specs.Keys.{counted_in}
use Rattle.advice.specs.Advice.{advice_for}
use Rattle.advice.specs.declared.Advice.{Advice}
use Rattle.advice.specs.declared.Advice.TheVariants.{Available, Discourage}

-- what is asked
pub data Question : Type 0 where
  -- the text of a Date
  date_text : String → Question
  -- the text of the key data, in a field that is valid but for it
  key_data : String → Question
  -- an Autocrypt field, from this sender: does it count?
  field_from : String → String → Question
  -- last seen lies so many seconds above the timestamp; there is no reply and no preference
  gap_of : ℕ → Question

-- what can be answered: a Date or that it is unavailable, a key or that key data spoils the field, whether a field counts, an advice
pub data Answer : Type 0 where
  seconds : ℕ → Answer
  unavailable : Answer
  the_key : List ℕ → Answer
  spoiled : Answer
  counts : Answer
  does_not_count : Answer
  advises : Advice → Answer

-- the answer on a Date
unfoldable pub of_date : Option ℕ → Answer
of_date None = unavailable
of_date (Some n) = seconds n

-- the answer on key data, by its field
unfoldable pub of_field : Option Field → Answer
of_field None = spoiled
of_field (Some f) = the_key f.key

-- the answer on whether a field counts
unfoldable pub of_counted : Option Field → Answer
of_counted None = does_not_count
of_counted (Some f) = counts

-- the field that counts in a message, which has a sender
unfoldable pub counted_from : Option (List ℕ) → List FieldText → Answer
counted_from None fs = does_not_count
counted_from (Some sender) fs = of_counted (counted_in key_limit fs sender)

-- whether the Autocrypt field of a message counts, by its fields
unfoldable pub counted_of : List FieldText → Answer
counted_of fs = counted_from (sender_in fs) fs

-- a direct key without preference, last seen so much later
unfoldable pub seen_after : ℕ → Entry
seen_after gap =
    record {
      address = ascii "a@b.example";
      last_seen = Some (1000 + gap);
      direct = Some (record { timestamp = 1000; key = ascii "foo"; «mutual» = false });
      gossip = None;
    }

-- the answer of the definitions to a question
unfoldable pub answered : Question → Answer
answered (date_text text) = of_date (date_of (ascii text))
answered (key_data text) = of_field (field_of key_limit (ascii "addr=a@b.example; keydata=" ++ ascii text))
answered (field_from sender value) = counted_of (fields_in (ascii "From: " ++ (ascii sender ++ (ascii "\r\nAutocrypt: " ++ ascii value))))
answered (gap_of n) = advises (advice_for false false (Some (seen_after n)))

-- a question, and the answer that C14 gives
pub data Example : Type 0 where
  ◌gives◌ : Question → Answer → Example

infix 20 ◌gives◌
-- the question of an example
unfoldable pub asked : Example → Question
asked (q gives a) = q

-- the answer that it gives
unfoldable pub expected : Example → Answer
expected (q gives a) = a

-- C14: the table of examples
unfoldable pub examples : List Example
examples =
    -- D13: a Date in UTC, one before 1970, and one with a west offset; D8: a day that its month does not have
    (date_text "1 Jan 1970 00:00:00 +0000" gives seconds 0)
    ∷ (date_text "1 Jan 1970 00:30 +0100" gives seconds 0)
    ∷ (date_text "1 Mar 2000 00:00:00 -0100" gives seconds 951872400)
    ∷ (date_text "29 Feb 1900 00:00 GMT" gives unavailable)
    -- F9: key data that is right, unused bits that are not zero, padding that is missing
    ∷ (key_data "Zg==" gives the_key (ascii "f"))
    ∷ (key_data "Zh==" gives spoiled)
    ∷ (key_data "Zg" gives spoiled)
    -- F12, F13: a field of the sender; F5: with an unknown attribute, and with an ignored one; F3, F8: with a `;` at the end
    ∷ (field_from "A@B.example" "addr=a@b.example; keydata=Zm9v" gives counts)
    ∷ (field_from "A@B.example" "addr=a@b.example; type=1; keydata=Zm9v" gives does_not_count)
    ∷ (field_from "A@B.example" "addr=a@b.example; _type=1; keydata=Zm9v" gives counts)
    ∷ (field_from "A@B.example" "addr=a@b.example; keydata=Zm9v;" gives does_not_count)
    -- A3: a gap of 35 days, and of one second more
    ∷ (gap_of 3024000 gives advises Available)
    ∷ (gap_of 3024001 gives advises Discourage)
    ∷ []

-- C14: the definitions answer each example as it says
pub data Hold : List Example → Type 0 where
  none_left : Hold []
  ◌and◌ : {e : Example} {rest : List Example} → answered (asked e) ≡ expected e → Hold rest → Hold (e ∷ rest)

infixr 20 ◌and◌
