-- L23 as the decoder goes. Below, d is the lent memory as it came and e as it is left, and a decoder s says how far it is.
--     Front, behind_of               how long the front of a text is, and where the numbers begin behind it
--     run_from                       what the rest of a text comes to
--     Fine, Steps, Lands             the bounds that a decoder keeps, and what may be asked for under them
--     Landing, Lost, Landed          what a number that ends comes to
--     Going, Gone, Stepped           what one octet comes to
--     Shown, NoText, Decodes         what decoding answers
use Rattle.std.specs.Prelude.{ℕ, ◌+◌, ◌*◌, ◌^◌, ◌<◌, ◌≤◌, ◌≡◌, cond, List, ◌∷◌, eqb, length, take}
use Rattle.std.specs.Prelude.{Option, Some, None}
use Rattle.punycode.specs.Punycode.{front, landed, run}
use Rattle.decoder.specs.declared.Decoder.{Decoder}

pub record Front (s : List ℕ) (r : ℕ) : Type 0 where
  pub same : front s ≡ take r s
  pub upto : r ≤ length s
  pub there : 0 < r → r < length s

-- L23: a delimiter in the first place is none
abbrev pub behind_of : ℕ → ℕ
behind_of b = cond (eqb b 0) 0 (b + 1)

-- what the rest of a text comes to, from where the decoder is
abbrev pub run_from : Decoder → List ℕ → List ℕ → Option (List ℕ)
run_from s out rest = run rest s.n s.old s.bias (take s.len out) s.i s.w s.k

-- a number that is too large leads to no code point, so it never grows beyond that, and its weight does not either
pub record Fine (room : ℕ) (s : Decoder) : Type 0 where
  pub inside : s.len ≤ room
  pub point : s.n < 0x110000
  pub sum : s.i < 0x110000 * (s.len + 1)
  pub weight : s.w ≤ 35 * s.i + 1
  pub older : s.old ≤ s.i
  pub begun : 36 ≤ s.k

-- one octet may be read: there is room for one code point more
pub record Steps (room : ℕ) (s : Decoder) : Type 0 where
  pub fine : Fine room s
  pub more : s.len < room
  pub short : room < 2 ^ 32
  pub turns : s.k < 2 ^ 60

-- a number may end, which comes to `sum`
pub record Lands (room sum : ℕ) (s : Decoder) : Type 0 where
  pub short : room < 2 ^ 32
  pub inside : s.len < room
  pub point : s.n < 0x110000
  pub most : sum < 0x110000 * (s.len + 1)
  pub older : s.old ≤ sum

-- the code point is put in, or there is none; and so it goes on, whatever stands behind
pub record Landing (d e : List ℕ) (sum : ℕ) (s t : Decoder) : Type 0 where
  pub same : length e ≡ length d
  pub goes : (rest : List ℕ) → landed (run rest) s.n s.old (take s.len d) sum ≡ run_from t e rest
  pub fine : Fine (length d) t
  pub slow : t.len ≤ s.len + 1
  pub turns : t.k ≤ 36

pub record Lost (d e : List ℕ) (sum : ℕ) (s : Decoder) : Type 0 where
  pub same : length e ≡ length d
  pub goes : (rest : List ℕ) → landed (run rest) s.n s.old (take s.len d) sum ≡ None

abbrev pub Landed : List ℕ → List ℕ → ℕ → Decoder → Option Decoder → Type 0
Landed d e sum s (Some t) = Landing d e sum s t
Landed d e sum s None = Lost d e sum s

-- the octet c is read, and so it goes on, whatever stands behind it
pub record Going (d e : List ℕ) (c : ℕ) (s t : Decoder) : Type 0 where
  pub same : length e ≡ length d
  pub goes : (rest : List ℕ) → run_from s d (c ∷ rest) ≡ run_from t e rest
  pub fine : Fine (length d) t
  pub slow : t.len ≤ s.len + 1
  pub turns : t.k ≤ s.k + 36

pub record Gone (d e : List ℕ) (c : ℕ) (s : Decoder) : Type 0 where
  pub same : length e ≡ length d
  pub goes : (rest : List ℕ) → run_from s d (c ∷ rest) ≡ None

abbrev pub Stepped : List ℕ → List ℕ → ℕ → Decoder → Option Decoder → Type 0
Stepped d e c s (Some t) = Going d e c s t
Stepped d e c s None = Gone d e c s

-- L23: the code points stand at the beginning of the memory
pub record Shown (d e : List ℕ) (o : Option (List ℕ)) (m : ℕ) : Type 0 where
  pub same : length e ≡ length d
  pub text : o ≡ Some (take m e)
  pub upto : m ≤ length e

pub record NoText (d e : List ℕ) (o : Option (List ℕ)) : Type 0 where
  pub same : length e ≡ length d
  pub text : o ≡ None

abbrev pub Decodes : List ℕ → List ℕ → Option (List ℕ) → Option ℕ → Type 0
Decodes d e o (Some m) = Shown d e o m
Decodes d e o None = NoText d e o
