-- Base64 lines behind a field's other text: they are one value, and unfolded they are the text with a space before each 76 characters.
--     raw_lines, unfolded_lines      the lines of a text, behind CR and LF
--     folded_raw, folded_value       behind a text without LF, too
-- Assumes nothing.
use Prim.Native.Nat.{ℕ, zero, suc, ◌<◌}
use mathlib.Core.Path.{◌≡◌, refl, sym, ◌∙◌}
use mathlib.Core.Bool.{true, false, false≢true}
use mathlib.Core.List.{List, [], ◌∷◌, ◌++◌}
use native.Mathlib.Omega.{arith}
use borrow.Author.Tests.{eqb-false}
use lib.Dec.{eqb}
use lib.ListN.{length, get_or}
use Rattle.octets.specs.Octets.{cr, lf, space, blank}
use Rattle.octets.proofs.Tests.{by_test}
use Rattle.runs.specs.Runs.{belongs}
use Rattle.runs.specs.declared.Class.TheVariants.{Blank}
use Rattle.letters.specs.Alphabetic.{Free}
use Rattle.keylines.specs.Lines.{laid, lines, ending, spaced, spread}
use Rattle.header.specs.Header.{closes, unfolded}
use Rattle.header.specs.Blocks.{is_raw}
use Rattle.header.proofs.Unfolding.{NoLf, plain_octet, unfolded_in, unfolded_crlf, unfolded_plain, unfolded_before}
use Rattle.header.proofs.InFront.{raw_lf, raw_cons, raw_text}

-- an octet that is no line ending is neither LF nor CR
module _ (x : ℕ) (e : ending x ≡ false) where
  no_cr : eqb x 13 ≡ false
  unfolding ending
  no_cr = by_test (eqb x 13) (λ t. absurd (false≢true (sym e ∙ rw t))) (λ f. f)

  no_lf : eqb x 10 ≡ false
  unfolding ending
  no_lf = rw no_cr at e

  raw_other : (s : List ℕ) → is_raw s ≡ true → is_raw (x ∷ s) ≡ true
  unfolding closes
  raw_other s h = raw_cons x s (rw (closes, no_lf)) h

  unfolded_other : (s : List ℕ) → unfolded (x ∷ s) ≡ x ∷ unfolded s
  unfolded_other s = unfolded_in x s (plain_octet x (get_or s 0 0) (eqb-false x 10 no_lf) (λ q _. eqb-false x 13 no_cr q))

-- CR and LF, before what continues the field
raw_break : (s : List ℕ) → belongs Blank (get_or s 0 0) ≡ true → is_raw s ≡ true → is_raw (cr ∷ lf ∷ s) ≡ true
unfolding closes
raw_break s b h = raw_cons cr (lf ∷ s) refl (raw_cons lf s (rw b) h)

raw_laid : (k : ℕ) (t : List ℕ) → Free ending t → is_raw (laid k t) ≡ true
unfolding Free laid closes belongs blank ending
raw_laid zero [] h = raw_cons cr (lf ∷ []) refl raw_lf
raw_laid (suc k) [] h = raw_cons cr (lf ∷ []) refl raw_lf
raw_laid zero (x ∷ t) h = raw_break (space ∷ x ∷ laid 75 t) refl (raw_other space refl (x ∷ laid 75 t) (raw_other x h.0 (laid 75 t) (raw_laid 75 t h.1)))
raw_laid (suc k) (x ∷ t) h = raw_other x h.0 (laid k t) (raw_laid k t h.1)

unfolded_laid : (k : ℕ) (t : List ℕ) → Free ending t → unfolded (laid k t) ≡ spaced k t
unfolding Free laid spaced unfolded ending
unfolded_laid zero [] h = unfolded_crlf []
unfolded_laid (suc k) [] h = unfolded_crlf []
unfolded_laid zero (x ∷ t) h =
    unfolded_crlf (space ∷ x ∷ laid 75 t)
    ∙ rw (unfolded_other space refl (x ∷ laid 75 t), unfolded_other x h.0 (laid 75 t), unfolded_laid 75 t h.1)
unfolded_laid (suc k) (x ∷ t) h = rw (unfolded_other x h.0 (laid k t), unfolded_laid k t h.1)

-- the lines of a text that is not empty, behind CR and LF
module _ (t : List ℕ) (some_text : 0 < length t) (free : Free ending t) where
  raw_lines : is_raw (cr ∷ lf ∷ lines t) ≡ true
  unfolding Free lines belongs blank ending
  raw_lines = go t some_text free
    where
      go : (t : List ℕ) → 0 < length t → Free ending t → is_raw (cr ∷ lf ∷ lines t) ≡ true
      go [] l h = absurd (omega arith)
      go (x ∷ s) l h = raw_break (space ∷ x ∷ laid 75 s) refl (raw_other space refl (x ∷ laid 75 s) (raw_other x h.0 (laid 75 s) (raw_laid 75 s h.1)))

  unfolded_lines : unfolded (cr ∷ lf ∷ lines t) ≡ spread t
  unfolding Free lines spread ending
  unfolded_lines = go t some_text free
    where
      go : (t : List ℕ) → 0 < length t → Free ending t → unfolded (cr ∷ lf ∷ lines t) ≡ spread t
      go [] l h = absurd (omega arith)
      go (x ∷ s) l h =
          unfolded_crlf (space ∷ x ∷ laid 75 s)
          ∙ rw (unfolded_other space refl (x ∷ laid 75 s), unfolded_other x h.0 (laid 75 s), unfolded_laid 75 s h.1)

  module _ (head : List ℕ) (n : NoLf head) where
    pub folded_raw : is_raw (head ++ (cr ∷ lf ∷ lines t)) ≡ true
    folded_raw = raw_text head (cr ∷ lf ∷ lines t) n raw_lines

    pub folded_value : unfolded (head ++ (cr ∷ lf ∷ lines t)) ≡ head ++ spread t
    folded_value = unfolded_before head (cr ∷ lf ∷ lines t) (λ e. omega arith) ∙ rw (unfolded_plain head n, unfolded_lines)
