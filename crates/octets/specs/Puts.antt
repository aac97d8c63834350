-- A text that is written from a place of a buffer on while it is made, as far as there is room. Below, d is the buffer as it came and e as
-- it is left. Where there is no room, of e only its length is told: such a buffer is the writer's own.
--     Written     all of w is written but its end, `rest`
--     TooLong     w has no room
--     Puts        what writing w answers
--     Told, Untold    a text that there may not be is written; it is not
--     PutsText    what writing a text answers that there may not be
use Rattle.std.specs.Prelude.{ℕ, ◌+◌, ◌<◌, ◌≤◌, ◌≡◌, List, [], ◌++◌, length, None}
use Rattle.std.specs.Prelude.{Option, Some}
use Rattle.octets.specs.Written.{put_at}

pub record Written (d : List ℕ) (at : ℕ) (e : List ℕ) (to : ℕ) (w rest : List ℕ) : Type 0 where
  pub octets : List ℕ
  pub splits : w ≡ octets ++ rest
  pub writes : e ≡ put_at d at octets
  pub counts : to ≡ at + length octets
  pub room : to ≤ length d

pub record TooLong (d : List ℕ) (at : ℕ) (e : List ℕ) (w : List ℕ) : Type 0 where
  pub long : length d < at + length w
  pub same : length e ≡ length d

abbrev pub Puts : List ℕ → List ℕ → ℕ → List ℕ → Option ℕ → Type 0
Puts d e at w (Some m) = Written d at e m w []
Puts d e at w None = TooLong d at e w

-- there is a text, and it is written
pub record Told (d : List ℕ) (at : ℕ) (e : List ℕ) (to : ℕ) (o : Option (List ℕ)) : Type 0 where
  pub text : List ℕ
  pub is : o ≡ Some text
  pub writes : e ≡ put_at d at text
  pub counts : to ≡ at + length text
  pub room : to ≤ length d

-- there is none, or none that has room
pub record Untold (d : List ℕ) (at : ℕ) (e : List ℕ) (o : Option (List ℕ)) : Type 0 where
  pub long : (w : List ℕ) → o ≡ Some w → length d < at + length w
  pub same : length e ≡ length d

abbrev pub PutsText : List ℕ → List ℕ → ℕ → Option (List ℕ) → Option ℕ → Type 0
PutsText d e at o (Some m) = Told d at e m o
PutsText d e at o None = Untold d at e o
