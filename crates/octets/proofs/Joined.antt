-- Lists that are made of octets hold octets.
--     more_octets         an octet before others
--     append_octets       a list behind another
--     replicate_octets    one octet over and over
--     digits_octets       the octets of a number
--     put_octets          a list written over a part of another
-- Assumes nothing.
use Prim.Native.Nat.{ℕ, suc, zero, ◌+◌, ◌/◌, ◌<◌}
use mathlib.Core.List.{List, [], ◌∷◌, ◌++◌}
use native.Mathlib.Omega.{arith}
use lib.ListN.{length, take, drop, replicate}
use Rattle.octets.specs.Octets.{AllOctets}
use Rattle.octets.specs.Numbers.{digits}
use Rattle.octets.specs.Written.{put_at}
use Rattle.octets.proofs.Lists.{take_octets, drop_octets}

pub more_octets : (x : ℕ) (s : List ℕ) → x < 256 → AllOctets s → AllOctets (x ∷ s)
more_octets x s h o zero = h
more_octets x s h o (suc i) = o i

pub append_octets : (s t : List ℕ) → AllOctets s → AllOctets t → AllOctets (s ++ t)
append_octets [] t o p = p
append_octets (x ∷ s) t o p = more_octets x (s ++ t) (o 0) (append_octets s t (λ i. o (suc i)) p)

pub replicate_octets : (n x : ℕ) → x < 256 → AllOctets (replicate n x)
replicate_octets zero x h = λ i. omega arith
replicate_octets (suc n) x h = more_octets x (replicate n x) h (replicate_octets n x h)

pub digits_octets : (k n : ℕ) → AllOctets (digits k n)
unfolding digits
digits_octets zero n = λ i. omega arith
digits_octets (suc k) n = more_octets _ (digits k (n / 256)) (omega arith) (digits_octets k (n / 256))

pub put_octets : (d w : List ℕ) (at : ℕ) → AllOctets d → AllOctets w → AllOctets (put_at d at w)
unfolding put_at
put_octets d w at o p =
    append_octets (take at d) (w ++ drop (at + length w) d) (take_octets at d o)
    (append_octets w (drop (at + length w) d) p (drop_octets (at + length w) d o))
