-- Words of statements about whole blocks. No contract cites them.
--     is_raw      a value as a field has it: its last octet is an LF, and space or tab follows each other LF
--     with_cr_lf  a CR put before each LF
--     LfAlone     no CR stands directly before an LF
use Rattle.std.specs.Prelude.{ℕ, suc, ◌≡◌, Bool, true, false, not, ◌&&◌, List, [], ◌∷◌, eqb, get_or}
use Rattle.octets.specs.Octets.{cr, lf}
use Rattle.header.specs.Header.{closes}

-- B6: each line but the first continues the field, and the last one ends with LF
unfoldable pub is_raw : List ℕ → Bool
is_raw [] = false
is_raw (x ∷ []) = eqb x lf
is_raw (x ∷ y ∷ s) = not (closes x y) && is_raw (y ∷ s)

-- B15: the block with CRLF, made of the one with LF
unfoldable pub with_cr_lf : List ℕ → List ℕ
with_cr_lf [] = []
with_cr_lf (x ∷ s) = elim (eqb x lf) [ true ↦ cr ∷ lf ∷ with_cr_lf s | false ↦ x ∷ with_cr_lf s ]

-- B15: no line ends with CRLF, since no CR stands directly before an LF
abbrev pub LfAlone : List ℕ → Type 0
LfAlone s = (i : ℕ) → get_or s i 0 ≡ cr → get_or s (suc i) 0 ≡ lf → ⊥
