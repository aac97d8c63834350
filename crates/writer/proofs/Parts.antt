-- The parts of a field, and how long they are.
--     field_halves        a field is its two halves
--     preference_most     the longest attribute of the preference
--     field_counted       the length of a field is the sum of those of its parts
-- Assumes nothing.
use Prim.Native.Nat.{ℕ, ◌+◌, ◌≤◌}
use mathlib.Core.Path.{◌≡◌}
use mathlib.Core.Bool.{Bool, true, false}
use mathlib.Core.List.{List, ◌++◌, append_assoc}
use native.Mathlib.Omega.{arith}
use lib.ListN.{length, length-append}
use Rattle.letters.specs.Base64.{encode}
use Rattle.keylines.specs.Lines.{lines}
use Rattle.writer.specs.Writing.{preference, field_text}
use Rattle.writer.specs.Steps.{opening, attributes}

pub field_halves : (name address key : List ℕ) (m : Bool) → field_text name address m key ≡ opening name address ++ attributes m key
unfolding field_text opening attributes
field_halves name address key m = simp append_assoc

pub preference_most : (m : Bool) → length (preference m) ≤ 23
unfolding preference
preference_most true = omega arith
preference_most false = omega arith

-- the length of a field, from those of its parts
pub field_counted : (key : List ℕ) (n : ℕ) → n ≡ length (lines (encode key)) → (name address : List ℕ) (m : Bool) (p : ℕ) → p ≡ length (preference m)
    → length name + 7 + length address + p + 12 + n ≡ length (field_text name address m key)
unfolding field_text
field_counted key n e name address m p q = simp length-append (omega arith)
