-- What is printed, worked out by computing it.
--     one_line                  the line of an entry that has no gossip half (W8, W9)
--     free_slot, no_octets      a table that prints nothing, and one that is refused
-- Assumes nothing.
use mathlib.Core.Path.{◌≡◌, refl}
use mathlib.Core.Bool.{true}
use Rattle.std.specs.Prelude.{Some, None}
use mathlib.Core.List.{[], ◌∷◌}
use lib.ListN.{replicate}
use Rattle.octets.specs.Octets.{ascii, all_zero, same_octets}
use Rattle.octets.specs.Options.{or_else}
use Rattle.slots.specs.Slot.{slot_length, free, marked}
use Rattle.heads.specs.Entry.{Entry}
use Rattle.table.specs.Table.{slots, slot_at, right_by, whole, judged_by, checked_by}
use Rattle.columns.specs.Columns.{last_digits, decimal, time_text, preference_text}
use Rattle.printout.specs.Printout.{line, line_of, slot_text, lines_from, listing, printed}

abbrev bob : Entry
bob =
    record {
      address = ascii "bob@b.example";
      last_seen = Some 2000;
      direct = Some (record { timestamp = 1000; key = 1 ∷ 2 ∷ 3 ∷ []; «mutual» = true });
      gossip = None;
    }

one_line : line_of bob ≡ ascii "bob@b.example 2000 1000 3 mutual - 0\n"
unfolding line_of line time_text preference_text decimal last_digits or_else
one_line = refl

free_slot : printed (replicate slot_length 0) ≡ []
unfolding printed listing lines_from slot_text marked same_octets checked_by whole slots judged_by right_by free all_zero slot_at
free_slot = refl

no_octets : printed [] ≡ ascii "refused 1\n"
unfolding printed listing checked_by whole slots
no_octets = refl
