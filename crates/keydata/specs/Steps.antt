-- What the private functions answer: the steps between `decode` (SCOPE, F9) and the code's places.
--     Run         what `write_groups` answers: a text has been read a way, and its octets are written, if they have room
--     up_to       what `write_last` answers
--     Wrote       what `write` answers and leaves
--     NoneFit     what is refused: octets that have no room, or none at all
use Rattle.std.specs.Prelude.{ℕ, ◌+◌, ◌^◌, ◌<◌, ◌≤◌, ◌≡◌, cond, leb, List, length, drop}
use Rattle.std.specs.Prelude.{Option, Some, None, option_map}
use Rattle.octets.specs.Octets.{without_blanks}
use Rattle.octets.specs.Written.{put_at, onto}
use Rattle.letters.specs.Base64.{before, decode}
use Rattle.keydata.specs.Answers.{decoded_of}

-- s has been read from the place `at` up to the place i, and the octets that stand there end at the place o, if they are written over d
-- from the place `to` on. There they are, if they have room.
pub record Run (s : List ℕ) (at : ℕ) (d : List ℕ) (to : ℕ) (out : List ℕ) (i o : ℕ) : Type 0 where
  pub octets : List ℕ
  pub reads : decode (without_blanks (drop at s)) ≡ before octets (decode (without_blanks (drop i s)))
  pub counts : o ≡ to + length octets
  pub same : length out ≡ length d
  pub writes : o ≤ length d → out ≡ put_at d to octets
  pub few : at + length octets ≤ i
  pub upto : i ≤ length s

-- n, if it is not above `most`
unfoldable pub up_to : ℕ → ℕ → Option ℕ
up_to most n = cond (leb n most) (Some n) None

-- how many octets there are is answered up to `most`; they stand over the beginning of d, if they have room. With the largest number
-- for `most` no text has too many.
pub record Wrote (octets : Option (List ℕ)) (d out : List ℕ) (most : ℕ) (r : Option ℕ) : Type 0 where
  pub counts : r ≡ decoded_of octets most
  pub all : most + 1 ≡ 2 ^ 64 → r ≡ option_map length octets
  pub writes : (w : List ℕ) → octets ≡ Some w → length w ≤ most → length w ≤ length d → out ≡ onto w d

-- o holds no octets that have room in so much
pub record NoneFit (o : Option (List ℕ)) (room : ℕ) : Type 0 where
  pub over : (w : List ℕ) → o ≡ Some w → room < length w
