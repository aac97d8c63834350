-- A field among others.
--     opens_plain         a text that opens with a name opens with neither space nor tab
--     fields_among        the fields of whole lines and a text behind them are their own and those of the other
-- Assumes nothing.
use Prim.Native.Nat.{ℕ, suc, ◌<◌, ◌≤◌}
use mathlib.Core.Path.{◌≡◌, refl, sym, ap, ◌∙◌}
use mathlib.Core.Bool.{true, false, not, ◌&&◌}
use mathlib.Core.List.{List, [], ◌∷◌, ◌++◌, append_assoc}
use native.Mathlib.Omega.{arith}
use borrow.Author.Tests.{leb-true, ne_eqb}
use lib.Dec.{leb, eqb}
use lib.ListN.{length, get_or}
use Rattle.octets.specs.Octets.{octet, blank}
use Rattle.octets.specs.Options.{in_front}
use Rattle.octets.proofs.Tests.{and_left, by_test}
use Rattle.runs.specs.Runs.{belongs, run_length, run}
use Rattle.runs.specs.declared.Class.TheVariants.{Name, Blank}
use Rattle.header.specs.Header.{unfolded, FieldText, fields}
use Rattle.header.proofs.InFront.{field_in_front}
use Rattle.trip.specs.RoundTrip.{Lines, none, one, in_front_all}

-- a name does not open with space or tab
name_octet : (x : ℕ) → belongs Name x ≡ true → belongs Blank x ≡ false
unfolding belongs blank
name_octet x h =
    let l : 33 ≤ x = leb-true 33 x (and_left (leb 33 x) (leb x 126) (and_left (leb 33 x && leb x 126) (not (eqb x (octet ":"))) h)) in
    rw (ne_eqb x 32 (λ e. omega arith), ne_eqb x 9 (λ e. omega arith))

-- nor does a text of whole fields, or what stands behind it
pub opens_plain : (name s : List ℕ) → run_length Name name ≡ length name → 0 < length name → belongs Blank (get_or (name ++ s) 0 0) ≡ false
unfolding run
opens_plain [] s h l = absurd (omega arith)
opens_plain (x ∷ name) s h l =
    by_test (belongs Name x)
    (λ e. name_octet x e)
    (λ e. absurd (let z : 0 ≡ suc (length name) = sym (rw (run, e)) ∙ h in omega arith))

lines_open : (s : List ℕ) (fs : List FieldText) → Lines s fs → (t : List ℕ) → belongs Blank (get_or t 0 0) ≡ false → belongs Blank (get_or (s ++ t) 0 0) ≡ false
lines_open s fs none t b = b
lines_open s fs (one name raw rest gs n l r k) t b =
    rw append_assoc (opens_plain name ((octet ":" ∷ (raw ++ rest)) ++ t) n l)

pub fields_among : (s : List ℕ) (fs : List FieldText) → Lines s fs → (t : List ℕ) → belongs Blank (get_or t 0 0) ≡ false → fields (s ++ t) ≡ in_front_all fs (fields t)
unfolding in_front_all
fields_among s fs none t b = refl
fields_among s fs (one name raw rest gs n l r k) t b =
    ap fields (append_assoc name (octet ":" ∷ (raw ++ rest)) t ∙ rw append_assoc)
    ∙ field_in_front name raw (rest ++ t) n l r (lines_open rest gs k t b)
    ∙ ap (in_front (record { name = name; value = unfolded raw })) (fields_among rest gs k t b)
