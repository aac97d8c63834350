-- Lines that are read back once their field is unfolded (C6).
--     joined_lines           the lines of a text, unfolded, are the text with a space before each 76 characters
--     without_spread         which is the text, with blanks removed
--     spread_free            and in which no character passes a test that neither a space nor one of the text's passes
--     joined_encode, spread_encode    both of them at the text of octets
--     spread_read_back, lines_read_back    it decodes to the octets, and so do the written lines
-- Assumes nothing.
use Prim.Native.Nat.{ℕ, zero, suc}
use mathlib.Core.Path.{◌≡◌, refl}
use mathlib.Core.Bool.{Bool, true, false}
use mathlib.Core.List.{List, [], ◌∷◌}
use Rattle.std.specs.Prelude.{Some}
use Rattle.octets.specs.Octets.{AllOctets, space, blank, without_blanks}
use Rattle.octets.specs.Tests.{without}
use Rattle.octets.proofs.Without.{without_other}
use Rattle.letters.specs.Base64.{sign_of, decode, encode}
use Rattle.letters.specs.Alphabetic.{Free}
use Rattle.letters.specs.declared.Sign.TheVariants.{Other}
use Rattle.letters.proofs.Alphabetic.{encode_free, either_other, blank_other}
use Rattle.letters.proofs.RoundTrip.{decode_encode}
use Rattle.keylines.specs.Lines.{laid, lines, ending, joined, spaced, spread}

pub ending_other : (x : ℕ) → ending x ≡ true → sign_of x ≡ Other
unfolding ending sign_of
ending_other x e = either_other 13 10 refl refl x e

-- lines, unfolded
joined_laid : (k : ℕ) (t : List ℕ) → Free ending t → joined (laid k t) ≡ spaced k t
unfolding Free laid spaced without ending
joined_laid zero [] h = refl
joined_laid (suc k) [] h = refl
joined_laid zero (x ∷ t) h = rw (without_other ending x (laid 75 t) h.0, joined_laid 75 t h.1)
joined_laid (suc k) (x ∷ t) h = rw (without_other ending x (laid k t) h.0, joined_laid k t h.1)

pub joined_lines : (t : List ℕ) → Free ending t → joined (lines t) ≡ spread t
unfolding Free lines spread without ending
joined_lines [] h = refl
joined_lines (x ∷ t) h = rw (without_other ending x (laid 75 t) h.0, joined_laid 75 t h.1)

without_spaced : (k : ℕ) (t : List ℕ) → Free blank t → without_blanks (spaced k t) ≡ t
unfolding Free spaced without blank
without_spaced zero [] h = refl
without_spaced (suc k) [] h = refl
without_spaced zero (x ∷ t) h = rw (without_other blank x (spaced 75 t) h.0, without_spaced 75 t h.1)
without_spaced (suc k) (x ∷ t) h = rw (without_other blank x (spaced k t) h.0, without_spaced k t h.1)

pub without_spread : (t : List ℕ) → Free blank t → without_blanks (spread t) ≡ t
unfolding Free spread without blank
without_spread [] h = refl
without_spread (x ∷ t) h = rw (without_other blank x (spaced 75 t) h.0, without_spaced 75 t h.1)

-- a test that a space does not pass
module _ (test : ℕ → Bool) (e : test space ≡ false) where
  spaced_free : (k : ℕ) (t : List ℕ) → Free test t → Free test (spaced k t)
  unfolding Free spaced
  spaced_free zero [] h = tt
  spaced_free (suc k) [] h = tt
  spaced_free zero (x ∷ t) h = (e, (h.0, spaced_free 75 t h.1))
  spaced_free (suc k) (x ∷ t) h = (h.0, spaced_free k t h.1)

  pub spread_free : (t : List ℕ) → Free test t → Free test (spread t)
  unfolding Free spread
  spread_free [] h = tt
  spread_free (x ∷ t) h = (e, (h.0, spaced_free 75 t h.1))

-- what is written reads back
module _ (s : List ℕ) where
  pub joined_encode : joined (lines (encode s)) ≡ spread (encode s)
  joined_encode = joined_lines (encode s) (encode_free ending ending_other s)

  pub spread_encode : without_blanks (spread (encode s)) ≡ encode s
  spread_encode = without_spread (encode s) (encode_free blank blank_other s)

  pub spread_read_back : AllOctets s → decode (without_blanks (spread (encode s))) ≡ Some s
  spread_read_back h = rw spread_encode (decode_encode s h)

  pub lines_read_back : AllOctets s → decode (without_blanks (joined (lines (encode s)))) ≡ Some s
  lines_read_back h = rw joined_encode (spread_read_back h)
