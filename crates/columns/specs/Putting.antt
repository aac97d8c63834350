-- What the writing of a column (W8) asks and does.
--     Room    there is room for a text from a place on
--     Put     a text was written from a place on
use Rattle.std.specs.Prelude.{ℕ, ◌+◌, ◌≤◌, ◌≡◌, List, length}
use Rattle.octets.specs.Written.{put_at}

-- a text w from the place `at` on ends within the buffer d
pub record Room (d : List ℕ) (at : ℕ) (w : List ℕ) : Type 0 where
  pub fits : at + length w ≤ length d

-- the text w was written from the place `at` on: d is the buffer before, out afterwards, and o the place behind the text
pub record Put (d out : List ℕ) (at : ℕ) (w : List ℕ) (o : ℕ) : Type 0 where
  pub text : out ≡ put_at d at w
  pub place : o ≡ at + length w
