-- Numbers in base ten, worked out by computing them.
--     nought, ten, last_second    the least, one of two digits, and the last time that there is
-- Assumes nothing.
use mathlib.Core.Path.{◌≡◌, refl}
use Rattle.octets.specs.Octets.{ascii}
use Rattle.heads.specs.Head.{time_limit}
use Rattle.columns.specs.Columns.{last_digits, decimal}

nought : decimal 0 ≡ ascii "0"
unfolding decimal last_digits
nought = refl

ten : decimal 10 ≡ ascii "10"
unfolding decimal last_digits
ten = refl

last_second : decimal time_limit ≡ ascii "253402300799"
unfolding decimal last_digits
last_second = refl
