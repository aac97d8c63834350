-- From L6 to L8 of SCOPE to what the code answers on addresses with labels in ASCII.
--     local_of          the answer on the local part that a text opens with
--     label_shape       what makes a run of letters, digits and hyphens a label
--     small_ascii       an octet that stays as it is by every rule of L8
--     lower_sides       the form of an address whose labels are ASCII, by its two sides
--     ascii_canonical   such an address that is its own form
use Rattle.std.specs.Prelude.{ℕ, Bool, cond, ◌&&◌, ◌||◌, List, ◌++◌, ltb, length, Option, Some, None}
use Rattle.octets.specs.Octets.{octet, same_octets, lowered}
use Rattle.octets.specs.Tests.{one_to}
use Rattle.utf8.specs.Lowering.{lower_text}
use Rattle.pieces.specs.Pieces.{before, from}
use Rattle.asciiaddress.specs.Ascii.{longest_label, local_part, free_ends, ascii_plain}

-- L6: how many octets the local part has, where an `@` follows it
unfoldable pub local_of : List ℕ → Option ℕ
local_of s =
    cond
    (ltb (length (before (octet "@") s)) (length s) && local_part (before (octet "@") s))
    (Some (length (before (octet "@") s)))
    None

-- L7: the length and the ends of a label
unfoldable pub label_shape : List ℕ → Bool
label_shape s = one_to longest_label (length s) && free_ends s

-- L8: ASCII, and no capital
unfoldable pub small_ascii : ℕ → Bool
small_ascii x = ltb x (octet "A") || (ltb (octet "Z") x && ltb x 128)

-- L8, L22: the local part in lower case, and the ASCII capitals of the domain made small
unfoldable pub lower_sides : List ℕ → List ℕ
lower_sides s = lower_text (before (octet "@") s) ++ lowered (from (octet "@") s)

-- L8: what `is_canonical` of address comes to, since the form of a label is ASCII
unfoldable pub ascii_canonical : List ℕ → Bool
ascii_canonical s = ascii_plain s && same_octets (lower_sides s) s
