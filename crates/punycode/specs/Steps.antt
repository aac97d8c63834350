-- L23 as the code has it: what the functions of one digit and of one bias answer.
--     Threshold    a threshold, with its bounds
--     Halved       what adapting begins with
use Rattle.std.specs.Prelude.{ℕ, ◌/◌, ◌≤◌, ◌≡◌, Bool, cond}
use Rattle.punycode.specs.Punycode.{threshold, damp}

pub record Threshold (k bias r : ℕ) : Type 0 where
  pub same : r ≡ threshold k bias
  pub low : 1 ≤ r
  pub high : r ≤ 26

-- L23: a part of delta, which is at most its half
pub record Halved (delta : ℕ) (first : Bool) (r : ℕ) : Type 0 where
  pub same : r ≡ cond first (delta / damp) (delta / 2)
  pub most : r ≤ delta / 2
