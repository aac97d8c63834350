-- Worked examples of L1, B7, D4, L7 and L12, by computing the definitions.
-- Assumes nothing.
use Prim.Native.Nat.{ℕ}
use mathlib.Core.Path.{◌≡◌, refl}
use mathlib.Core.List.{List, [], ◌∷◌, map}
use Rattle.octets.specs.Octets.{ascii, space, tab, lf, blank}
use Rattle.runs.specs.Runs.{belongs, run, run_length}
use Rattle.runs.specs.declared.Class.{Class}
use Rattle.runs.specs.declared.Class.TheVariants.{Blank, Name, Digit, Letter, Atom, Label, Address}

-- a class, a text, and how long a run of the class it opens with
runs : List (Class × List ℕ × ℕ)
runs =
    (Blank, space ∷ tab ∷ lf ∷ [], 2)
    -- B7: both ends of the range are in, the colon is out
    ∷ (Name, 33 ∷ 126 ∷ ascii "Cc: x", 4)
    ∷ (Name, space ∷ [], 0)
    ∷ (Digit, ascii "2024Jan", 4)
    ∷ (Letter, ascii "Jan-1", 3)
    ∷ (Atom, ascii "a!#$%&'*+-/=?^_`{|}~9.b", 21)
    ∷ (Atom, 195 ∷ 164 ∷ 127 ∷ [], 2)
    ∷ (Label, ascii "Mail-2.example", 6)
    ∷ (Address, ascii "a.b@c.d>", 7)
    ∷ []

runs_hold : map (λ (e : Class × List ℕ × ℕ). run_length e.0 e.1) runs ≡ map (λ (e : Class × List ℕ × ℕ). e.2) runs
unfolding runs run belongs blank
runs_hold = refl
