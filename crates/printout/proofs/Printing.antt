-- What is printed for an input, on each way through `print`.
--     printed_long, printed_by         the text, by the input's length
--     printed_length .. printed_lines  and by the answer of the check
--     print_length .. print_fits       what the code asks: the answer, what the buffer holds, and that there is room
--     the ruleset                      printing
-- Assumes nothing.
use Prim.Native.Nat.{ℕ, ◌<◌, ◌≤◌}
use mathlib.Core.Path.{◌≡◌, sym, ◌∙◌}
use mathlib.Core.List.{List}
use native.Mathlib.Nat.{zero-add}
use native.Mathlib.Omega.{arith}
use borrow.Author.Rules.{rules}
use borrow.Author.Tests.{le-leb, lt-leb}
use lib.ListN.{length}
use Rattle.octets.specs.Octets.{ascii}
use Rattle.octets.specs.Written.{put_at, onto}
use Rattle.heads.proofs.Parts.{put_length}
use Rattle.table.specs.Table.{slots, checked}
use Rattle.table.specs.declared.Checked.{Checked}
use Rattle.table.specs.declared.Checked.TheVariants.{Sound, Length, Slot}
use Rattle.printout.specs.Printout.{lines_from, listing, printed}
use Rattle.columns.specs.Columns.{ended}
use Rattle.columns.specs.Putting.{Room, Put}
use Rattle.printout.proofs.Room.{lines_fit}

module _ (s : List ℕ) where
  pub printed_long : 61488 < length s → printed s ≡ ended (ascii "refused 1") 10
  unfolding printed ended
  printed_long l = rw (printed, lt-leb (length s) 61488 l)

  module _ (l : length s ≤ 61488) (c : Checked) (e : c ≡ checked s) where
    printed_by : printed s ≡ listing c s
    unfolding printed
    printed_by = rw (printed, le-leb (length s) 61488 l, e)

    pub printed_length : c ≡ Length → printed s ≡ ended (ascii "refused 1") 10
    unfolding listing ended
    printed_length q = printed_by ∙ rw q

    pub printed_slot : (i : ℕ) → c ≡ Slot i → printed s ≡ ended (ascii "refused 2") 10
    unfolding listing ended
    printed_slot i q = printed_by ∙ rw q

    module _ (q : c ≡ Sound) where
      pub lines_sound : checked s ≡ Sound
      lines_sound = sym e ∙ q

      pub printed_lines : printed s ≡ lines_from s 0 (slots s)
      unfolding listing
      printed_lines = printed_by ∙ rw q

      pub lines_room : (d : List ℕ) → length d ≡ 5166 → Room d 0 (lines_from s 0 (slots s))
      lines_room d k = record { fits = omega (arith, lines_fit s lines_sound l) }

-- the text was written to the front of the buffer
module _ (s w d out : List ℕ) (o : ℕ) (p : Put d out 0 w o) (e : printed s ≡ w) where
  pub print_length : o ≡ length (printed s)
  print_length = rw e (rw zero-add at p.place)

  pub print_left : out ≡ onto (printed s) d
  unfolding put_at onto
  print_left = rw e (rw zero-add at p.text)

pub refusal_room : (d : List ℕ) (x : ℕ) → length d ≡ 5166 → Room d 0 (ended (ascii "refused 1") x)
unfolding ended
refusal_room d x k = record { fits = omega arith }

pub refusal_room_too : (d : List ℕ) (x : ℕ) → length d ≡ 5166 → Room d 0 (ended (ascii "refused 2") x)
unfolding ended
refusal_room_too d x k = record { fits = omega arith }

pub print_fits : (w d out : List ℕ) (o : ℕ) → Put d out 0 w o → Room d 0 w → o ≤ length out
print_fits w d out o p r = rw (p.text, put_length d w 0 r.fits) (omega (arith, p.place, r.fits))

pub ruleset printing = (printed_long, printed_length, printed_slot, printed_lines, lines_sound, lines_room, print_length, print_fits, print_left, refusal_room, refusal_room_too, rules)
