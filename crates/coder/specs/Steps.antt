-- L23 as the coder goes. Below, d is the lent memory as it came and e as it is left, and a coder s says how far it is.
--     Ready                               so many turns may be asked for
--     Turning, Stopping, Turned           what one code point comes to
--     Passing, Stopped, Passes            what a pass comes to
--     Able, Rounding, Ending, Rounded     the way to the next code point, and a pass at it
--     Points                              what a caller shows of its code points
--     Begins                              what the passes begin with
--     delimiter_at                        the delimiter behind so many octets
use Rattle.std.specs.Prelude.{ℕ, ◌+◌, ◌-◌, ◌*◌, ◌^◌, ◌<◌, ◌≤◌, cond, List, [], ◌∷◌, eqb, length, get_or}
use Rattle.std.specs.Prelude.{Option, Some, None}
use Rattle.octets.specs.Puts.{Written, TooLong}
use Rattle.punycode.specs.Punycode.{delimiter, pass}
use Rattle.coder.specs.declared.Coder.{Coder}

-- each of n turns may add one to delta, and every sum fits
pub record Ready (room n : ℕ) (s : Coder) : Type 0 where
  pub inside : s.at ≤ room
  pub counted : s.h ≤ s.at
  pub short : room ≤ 2 ^ 32
  pub few : s.delta + n < 2 ^ 56

-- what a turn writes and leaves, whatever code points stand behind c and whatever comes behind the pass
pub record Turning (d e : List ℕ) (b n c : ℕ) (s t : Coder) : Type 0 where
  pub wrote : (after : ℕ → ℕ → ℕ → List ℕ) (rest : List ℕ) → Written d s.at e t.at (pass after b n (c ∷ rest) s.delta s.bias s.h) (pass after b n rest t.delta t.bias t.h)
  pub grows : t.delta ≤ s.delta + 1
  pub counted : t.h ≤ t.at

pub record Stopping (d e : List ℕ) (b n c : ℕ) (s : Coder) : Type 0 where
  pub long : (after : ℕ → ℕ → ℕ → List ℕ) (rest : List ℕ) → TooLong d s.at e (pass after b n (c ∷ rest) s.delta s.bias s.h)

abbrev pub Turned : List ℕ → List ℕ → ℕ → ℕ → ℕ → Coder → Option Coder → Type 0
Turned d e b n c s (Some t) = Turning d e b n c s t
Turned d e b n c s None = Stopping d e b n c s

-- what a pass writes and leaves, whatever comes behind it
pub record Passing (d e : List ℕ) (b n : ℕ) (ps : List ℕ) (s t : Coder) : Type 0 where
  pub wrote : (after : ℕ → ℕ → ℕ → List ℕ) → Written d s.at e t.at (pass after b n ps s.delta s.bias s.h) (after (t.delta + 1) t.bias t.h)
  pub grows : t.delta ≤ s.delta + length ps
  pub counted : t.h ≤ t.at

pub record Stopped (d e : List ℕ) (b n : ℕ) (ps : List ℕ) (s : Coder) : Type 0 where
  pub long : (after : ℕ → ℕ → ℕ → List ℕ) → TooLong d s.at e (pass after b n ps s.delta s.bias s.h)

abbrev pub Passes : List ℕ → List ℕ → ℕ → ℕ → List ℕ → Coder → Option Coder → Type 0
Passes d e b n ps s (Some t) = Passing d e b n ps s t
Passes d e b n ps s None = Stopped d e b n ps s

-- the way from n to the next code point m; delta grows by less than `sum` says for each number up to n
pub record Able (room : ℕ) (ps : List ℕ) (n m : ℕ) (s : Coder) : Type 0 where
  pub inside : s.at ≤ room
  pub counted : s.h ≤ s.at
  pub short : room ≤ 2 ^ 32
  pub few : length ps ≤ 2 ^ 32
  pub from : n ≤ m
  pub most : m < 0x110000
  pub sum : s.delta ≤ n * (length ps + room + 2)

pub record Rounding (d e : List ℕ) (b n m : ℕ) (ps : List ℕ) (s t : Coder) : Type 0 where
  pub wrote : (after : ℕ → ℕ → ℕ → List ℕ) → Written d s.at e t.at (pass after b m ps (s.delta + (m - n) * (s.h + 1)) s.bias s.h) (after t.delta t.bias t.h)
  pub sum : t.delta ≤ (m + 1) * (length ps + length d + 2)
  pub counted : t.h ≤ t.at

pub record Ending (d e : List ℕ) (b n m : ℕ) (ps : List ℕ) (s : Coder) : Type 0 where
  pub long : (after : ℕ → ℕ → ℕ → List ℕ) → TooLong d s.at e (pass after b m ps (s.delta + (m - n) * (s.h + 1)) s.bias s.h)

abbrev pub Rounded : List ℕ → List ℕ → ℕ → ℕ → ℕ → List ℕ → Coder → Option Coder → Type 0
Rounded d e b n m ps s (Some t) = Rounding d e b n m ps s t
Rounded d e b n m ps s None = Ending d e b n m ps s

-- L23: at most U+10FFFF, and few enough that every sum fits
pub record Points (room : ℕ) (ps : List ℕ) : Type 0 where
  pub below : (i : ℕ) → get_or ps i 0 < 0x110000
  pub few : length ps ≤ 2 ^ 32
  pub short : room ≤ 2 ^ 32

-- b code points and their delimiter end at `at`
pub record Begins (room : ℕ) (ps : List ℕ) (b at : ℕ) : Type 0 where
  pub points : Points room ps
  pub inside : at ≤ room
  pub counted : b ≤ at

-- L23: the delimiter stands only behind something
unfoldable pub delimiter_at : ℕ → List ℕ
delimiter_at at = cond (eqb at 0) [] (delimiter ∷ [])
