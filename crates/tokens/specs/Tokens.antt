-- SCOPE, L1 to L5 and L11: blanks and comments, which lists and dates have (D5, D6), and quoted strings, which lists have. A reader
-- takes the octets that are left and gives the octets that are left behind what it read, or none where the text is unreadable.
--     control              control octets
--     kind_of              what an octet is inside a comment or a quoted string
--     past, skipped        behind spaces, tabs and comments
--     after_quote          behind a quoted string
use Rattle.std.specs.Prelude.{ℕ, zero, suc, Bool, true, false, cond, not, ◌&&◌, ◌||◌, List, [], ◌∷◌, ltb, eqb}
use Rattle.std.specs.Prelude.{Option, Some, None}
use Rattle.octets.specs.Octets.{octet, tab, blank}
use Rattle.tokens.specs.declared.OctetKind.{OctetKind}
use Rattle.tokens.specs.declared.OctetKind.TheVariants.{Closes, Escapes, Control, Plain}

-- L1: an octet below 32, or 127, the tab excepted
unfoldable pub control : ℕ → Bool
control x = (ltb x 32 || eqb x 127) && not (eqb x tab)

-- What an octet is inside a comment or a quoted string, by the octet that closes it. L4: a backslash takes the octet behind it. L5:
-- a control octet is banned. All else is plain: a quote inside a comment, a parenthesis inside a quoted string, a tab, octets from
-- 128 on.
unfoldable pub kind_of : ℕ → ℕ → OctetKind
kind_of closing x = cond (eqb x closing) Closes (cond (eqb x (octet "\\")) Escapes (cond (control x) Control Plain))

-- L2: how many comments may stand one inside the other, the outermost counted
abbrev pub depth : ℕ
depth = 16

-- What is left behind blanks and comments, with so many comments open, and whether a backslash has just come. L11: outside of
-- comments what is left begins at the first octet that is neither a blank nor `(`. L2: a comment is unreadable where it would be
-- too deep, and where it does not close. L4: behind a backslash nothing opens or closes. L5: a control octet is unreadable, also
-- one that a backslash takes.
unfoldable pub past : ℕ → Bool → List ℕ → Option (List ℕ)
past zero taken [] = Some []
past (suc n) taken [] = None
past zero taken (x ∷ s) =
    elim (blank x) [
      | true ↦ past zero false s
      | false ↦ elim (eqb x (octet "(")) [ true ↦ past 1 false s | false ↦ Some (x ∷ s) ]
    ]
past (suc n) true (x ∷ s) = elim (control x) [ true ↦ None | false ↦ past (suc n) false s ]
past (suc n) false (x ∷ s) =
    elim (eqb x (octet "(")) [
      | true ↦ elim (ltb (suc n) depth) [ true ↦ past (suc (suc n)) false s | false ↦ None ]
      | false ↦ elim (kind_of (octet ")") x) [
        | Closes ↦ past n false s
        | Escapes ↦ past (suc n) true s
        | Control ↦ None
        | Plain ↦ past (suc n) false s
      ]
    ]

-- L11, D5: blanks and comments may stand in front of a token; each outermost comment counts its depth anew (L2)
abbrev pub skipped : List ℕ → Option (List ℕ)
skipped s = past 0 false s

-- What is left behind the closing quote of a quoted string whose opening quote has been read, and whether a backslash has just
-- come. L3: without its closing quote it is unreadable. L4: a quote that a backslash takes closes nothing. L5: a control octet is
-- unreadable, also one that a backslash takes.
unfoldable pub after_quote : Bool → List ℕ → Option (List ℕ)
after_quote taken [] = None
after_quote true (x ∷ s) = elim (control x) [ true ↦ None | false ↦ after_quote false s ]
after_quote false (x ∷ s) =
    elim (kind_of (octet "\"") x) [
      | Closes ↦ Some s
      | Escapes ↦ after_quote true s
      | Control ↦ None
      | Plain ↦ after_quote false s
    ]
