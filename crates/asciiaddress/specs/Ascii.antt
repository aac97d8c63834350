-- SCOPE, L6, L7: what plain addresses are made of, and the rule for labels in ASCII; T16: the old rule, which knew no others.
--     longest, longest_local, longest_label     the limits
--     atom, local_part                          what stands before the `@`
--     free_ends                                 what no label has at its ends
--     ascii_label, ascii_domain, ascii_plain    a plain address whose labels are ASCII
--     ascii_form, was_canonical                 its form by the old rule; one that is its own
use Rattle.std.specs.Prelude.{ℕ, ◌-◌, Bool, not, ◌&&◌, List, leb, eqb, length, get_or}
use Rattle.octets.specs.Octets.{octet, same_octets, lowered}
use Rattle.octets.specs.Tests.{every, one_to}
use Rattle.runs.specs.Runs.{belongs}
use Rattle.runs.specs.declared.Class.TheVariants.{Atom, Label}
use Rattle.pieces.specs.Pieces.{pieces, before, behind}

-- L6: a canonical form ends at 254 octets
abbrev pub longest : ℕ
longest = 254

-- L6: a local part ends at 64 octets
abbrev pub longest_local : ℕ
longest_local = 64

-- L7: the form of a label ends at 63 octets
abbrev pub longest_label : ℕ
longest_label = 63

-- L6: one or more atom octets (L1)
unfoldable pub atom : List ℕ → Bool
atom s = leb 1 (length s) && every (belongs Atom) s

-- L6: within its limit, atoms with a dot between two of them; so no dot comes first, last or beside another
unfoldable pub local_part : List ℕ → Bool
local_part s = one_to longest_local (length s) && every atom (pieces (octet ".") s)

-- L7: a hyphen comes neither first nor last
unfoldable pub free_ends : List ℕ → Bool
free_ends s = not (eqb (get_or s 0 0) (octet "-")) && not (eqb (get_or s (length s - 1) 0) (octet "-"))

-- T16: within its limit, ASCII letters, digits and hyphens, at least one
unfoldable pub ascii_label : List ℕ → Bool
ascii_label s = one_to longest_label (length s) && every (belongs Label) s && free_ends s

-- T16: such labels with a dot between two of them; one is enough
unfoldable pub ascii_domain : List ℕ → Bool
ascii_domain s = every ascii_label (pieces (octet ".") s)

-- T16: the first `@` parts local part and domain. A domain holds no other `@`, and a text without one has no domain.
unfoldable pub ascii_plain : List ℕ → Bool
ascii_plain s = leb (length s) longest && local_part (before (octet "@") s) && ascii_domain (behind (octet "@") s)

-- T16: by the old rule each ASCII capital, on either side of the `@`, becomes small, and nothing else changes
unfoldable pub ascii_form : List ℕ → List ℕ
ascii_form s = lowered s

-- T16: a plain address that is its own form by the old rule
unfoldable pub was_canonical : List ℕ → Bool
was_canonical s = ascii_plain s && same_octets (ascii_form s) s
