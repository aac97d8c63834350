-- Runs of octets, by the classes that SCOPE has in fields, lists, dates and addresses (L1, B7, D4, L7, L12).
--     digit, letter, atomic    single octets
--     belongs                  an octet of a class
--     run                      how many octets that pass a test a text opens with
--     run_length               how many octets of a class
use Rattle.std.specs.Prelude.{ℕ, suc, Bool, true, false, not, ◌&&◌, ◌||◌, List, [], ◌∷◌, leb, eqb}
use Rattle.octets.specs.Octets.{ascii, octet, blank}
use Rattle.runs.specs.declared.Class.{Class}
use Rattle.runs.specs.declared.Class.TheVariants.{Blank, Name, Digit, Letter, Atom, Label, Address}

-- an ASCII digit
abbrev pub digit : ℕ → Bool
digit x = leb (octet "0") x && leb x (octet "9")

-- an ASCII letter, capital or small
abbrev pub letter : ℕ → Bool
letter x = (leb (octet "A") x && leb x (octet "Z")) || (leb (octet "a") x && leb x (octet "z"))

-- L1: the nineteen signs of atoms
abbrev pub signs : List ℕ
signs = ascii "!#$%&'*+-/=?^_`{|}~"

-- is an octet one of a list?
abbrev pub among : List ℕ → ℕ → Bool
among [] x = false
among (y ∷ s) x = eqb x y || among s x

-- L1: an atom octet is a letter, a digit, a sign, or an octet of 128 or more
abbrev pub atomic : ℕ → Bool
atomic x = letter x || digit x || among signs x || leb 128 x

-- L1: blanks and atom octets. B7: a name has the octets 33 to 126, the colon left out. D4: digits and letters. L7: a label has
-- letters, digits and hyphens. L12: a run of atom octets, dots and `@` is an address or words.
unfoldable pub belongs : Class → ℕ → Bool
belongs Blank x = blank x
belongs Name x = leb 33 x && leb x 126 && not (eqb x (octet ":"))
belongs Digit x = digit x
belongs Letter x = letter x
belongs Atom x = atomic x
belongs Label x = letter x || digit x || eqb x (octet "-")
belongs Address x = atomic x || eqb x (octet ".") || eqb x (octet "@")

unfoldable pub run : (ℕ → Bool) → List ℕ → ℕ
run test [] = 0
run test (x ∷ s) = elim (test x) [ true ↦ suc (run test s) | false ↦ 0 ]

abbrev pub run_length : Class → List ℕ → ℕ
run_length class s = run (belongs class) s
