-- One turn of a pass: the code point at hand is below n, is n, or is above it.
--     Side, side                            which of the three it is
--     pass_below, pass_here, pass_above     what the pass does at it
-- Assumes nothing.
use Prim.Native.Nat.{ℕ, ◌+◌, ◌<◌, ◌≤◌}
use mathlib.Core.Path.{◌≡◌}
use mathlib.Core.List.{List, ◌∷◌, ◌++◌}
use mathlib.Core.Logic.{⊎_elim}
use native.Mathlib.Omega.{arith}
use borrow.Author.Tests.{lt-ltb, le-ltb, eq-eqb, ne_eqb}
use lib.Dec.{eqb}
use Rattle.octets.proofs.Lists.{lt_or_le}
use Rattle.punycode.specs.Punycode.{adapt, integer, pass}

pub data Side (c n : ℕ) : Type 0 where
  under : c < n → Side c n
  equal : c ≡ n → Side c n
  over : n < c → Side c n

pub side : (c n : ℕ) → Side c n
side c n = ⊎_elim (λ l. under l) (λ (l : n ≤ c). ⊎_elim (λ k. over k) (λ (k : c ≤ n). equal (omega arith)) (lt_or_le n c)) (lt_or_le c n)

module _ (after : ℕ → ℕ → ℕ → List ℕ) (b n c : ℕ) (s : List ℕ) (delta bias h : ℕ) where
  pub pass_below : c < n → pass after b n (c ∷ s) delta bias h ≡ pass after b n s (delta + 1) bias h
  unfolding pass
  pass_below l = rw (pass, lt-ltb c n l)

  pub pass_here : c ≡ n → pass after b n (c ∷ s) delta bias h ≡ integer delta bias 36 delta ++ pass after b n s 0 (adapt delta (h + 1) (eqb h b)) (h + 1)
  unfolding pass
  pass_here e = rw (pass, le-ltb c n (omega arith), eq-eqb c n e)

  pub pass_above : n < c → pass after b n (c ∷ s) delta bias h ≡ pass after b n s delta bias h
  unfolding pass
  pass_above l = rw (pass, le-ltb c n (omega arith), ne_eqb c n (omega arith))
