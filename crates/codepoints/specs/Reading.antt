-- Code points that are read from a text into lent memory, in lower case. Below, d is the memory as it came and e as it is left.
--     small_of               the code points of a text in lower case, where there are any
--     Shown, Nought, Many    they are there; there are none; they are too many
--     Reads                  what reading a text answers
--     Begun                  the start of a code point, of which some octets are missing
--     Found, Gives           a code point is there; what reading one answers
use Rattle.std.specs.Prelude.{ℕ, ◌+◌, ◌*◌, ◌^◌, ◌<◌, ◌≤◌, ◌≡◌, List, length, take, drop}
use Rattle.std.specs.Prelude.{Option, Some, None}
use Rattle.octets.specs.Options.{in_front}
use Rattle.utf8.specs.Utf8.{points}
use Rattle.utf8.specs.Lowering.{lower_points}
use Rattle.codepoints.specs.declared.Read.{Read}
use Rattle.codepoints.specs.declared.Read.TheVariants.{Points, Bad, Full}
use Rattle.codepoints.specs.declared.Point.{Point}

-- L21: each of the code points in lower case
unfoldable pub small_of : Option (List ℕ) → Option (List ℕ)
small_of None = None
small_of (Some ps) = Some (lower_points ps)

-- the first m elements are all the code points
pub record Shown (d e : List ℕ) (o : Option (List ℕ)) (m : ℕ) : Type 0 where
  pub same : length e ≡ length d
  pub text : o ≡ Some (take m e)
  pub upto : m ≤ length e

-- L20: the text is ill-formed
pub record Nought (d e : List ℕ) (o : Option (List ℕ)) : Type 0 where
  pub same : length e ≡ length d
  pub text : o ≡ None

-- the text is ill-formed, or it has more code points than there is room for
pub record Many (d e : List ℕ) (o : Option (List ℕ)) : Type 0 where
  pub same : length e ≡ length d
  pub text : (ps : List ℕ) → o ≡ Some ps → length d < length ps

abbrev pub Reads : List ℕ → List ℕ → Option (List ℕ) → Read → Type 0
Reads d e o (Points m) = Shown d e o m
Reads d e o Bad = Nought d e o
Reads d e o Full = Many d e o

-- L20: `sum` is what a code point is so far. Each octet that is missing adds six bits, and with all of them it has at most 21. The
-- next of them lies from low to high, which is within the range of all that follow a first octet.
pub record Begun (need low high sum : ℕ) : Type 0 where
  pub small : (sum + 1) * 64 ^ need ≤ 0x200000
  pub least : 0 < need → 0x80 ≤ low
  pub most : high ≤ 0xBF

-- L20: a code point p that ends before the place `to`; those of a text are p and then those from there on
pub record Found (s : List ℕ) (at : ℕ) (o : Option (List ℕ)) (p to : ℕ) : Type 0 where
  pub is : o ≡ in_front p (points (drop to s))
  pub small : p < 0x200000
  pub on : at ≤ to
  pub upto : to ≤ length s

abbrev pub Gives : List ℕ → ℕ → Option (List ℕ) → Option Point → Type 0
Gives s at o (Some point) = Found s at o point.number point.end
Gives s at o None = o ≡ None
