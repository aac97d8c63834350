-- Code points that are read into an array of the program, and what is written from them (L20, L21, L23).
--     code_prefix .. code_points       those of a text, in lower case: as many as the coder takes
--     text_prefix .. text_points       those that a code stands for: they may be written
-- Assumes nothing.
use Rattle.std.specs.Prelude.{Option, Some}
use Prim.Native.Nat.{ℕ, ◌≤◌}
use mathlib.Core.Path.{◌≡◌, sym}
use mathlib.Core.Bool.{true}
use mathlib.Core.List.{List}
use native.Mathlib.Omega.{arith}
use borrow.Author.Rules.{rules}
use lib.ListN.{length, take}
use lib.Seq.{length-take-le}
use Rattle.utf8.specs.Utf8.{points, scalars}
use Rattle.codepoints.specs.Reading.{small_of, Shown, Reads}
use Rattle.codepoints.specs.declared.Read.{Read}
use Rattle.codepoints.specs.declared.Read.TheVariants.{Points as Are}
use Rattle.codepoints.proofs.Bounds.{small_scalars, scalars_below}
use Rattle.punycode.specs.Punycode.{decode}
use Rattle.punycode.proofs.Sound.{decode_scalars}
use Rattle.coder.specs.Steps.{Points}
use Rattle.decoder.specs.Steps.{Shown as Stands, Decodes}

-- the code points p₀ as they came, and p as they are read from s
module _ (s p₀ p : List ℕ) (o : Read) (n : ℕ) (a : o ≡ Are n) (q : Reads p₀ p (small_of (points s)) o) where
  shown : Shown p₀ p (small_of (points s)) n
  shown = rw a at q

  pub code_prefix : n ≤ length p
  code_prefix = shown.upto

  pub code_count : n ≡ length (take n p)
  code_count = sym (length-take-le n p shown.upto)

  pub code_points : length p₀ ≡ 256 → Points 256 (take n p)
  code_points l =
      record {
        below = scalars_below (take n p) (small_scalars s (take n p) shown.text);
        few = omega (arith, code_count, shown.upto, shown.same);
        short = omega arith;
      }

pub ruleset reading_code = (code_prefix, code_count, code_points, rules)

-- and as they are decoded from c
module _ (c p₀ p : List ℕ) (o : Option ℕ) (n : ℕ) (a : o ≡ Some n) (q : Decodes p₀ p (decode c) o) where
  stands : Stands p₀ p (decode c) n
  stands = rw a at q

  pub text_prefix : n ≤ length p
  text_prefix = stands.upto

  pub text_count : n ≡ length (take n p)
  text_count = sym (length-take-le n p stands.upto)

  pub text_points : scalars (take n p) ≡ true
  text_points = decode_scalars c (take n p) stands.text

pub ruleset reading_text = (text_prefix, text_count, text_points, rules)
