-- Tables of the alphabet (SCOPE, F9), as code has them.
--     Letters          a table that has the letter of each value
--     code_of, Signs   a sign as a number, and a table that has the number of each octet's sign
--     Low              a sign whose value, if it has one, is below 64
use Rattle.std.specs.Prelude.{ℕ, ◌<◌, ◌≡◌, List, get_or}
use Rattle.letters.specs.Base64.{letter, sign_of}
use Rattle.letters.specs.declared.Sign.{Sign}
use Rattle.letters.specs.declared.Sign.TheVariants.{Value, Pad, Other}

pub record Letters (table : List ℕ) : Type 0 where
  pub at : (v : ℕ) → v < 64 → get_or table v 0 ≡ letter v

-- the value, or 64 for a pad and 65 for all else
unfoldable pub code_of : Sign → ℕ
code_of (Value v) = v
code_of Pad = 64
code_of Other = 65

pub record Signs (table : List ℕ) : Type 0 where
  pub at : (x : ℕ) → x < 256 → get_or table x 0 ≡ code_of (sign_of x)

-- a value is below 64
abbrev pub Low : Sign → Type 0
Low (Value v) = v < 64
Low Pad = Unit
Low Other = Unit
