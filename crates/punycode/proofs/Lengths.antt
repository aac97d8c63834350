-- How long a coded text is.
--     passes_most     a digit at least for each code point that is written as a number
--     encode_most     a text is no shorter than its code points
-- Assumes nothing.
use Prim.Native.Nat.{ℕ, suc, zero, ◌+◌, ◌-◌, ◌*◌, ◌≤◌, zero-le}
use mathlib.Core.Path.{◌≡◌, refl, ap}
use mathlib.Core.List.{List, [], ◌∷◌}
use Rattle.std.specs.Prelude.{Option, Some, None}
use native.Mathlib.Omega.{arith}
use lib.Dec.{eqb}
use lib.ListN.{length, length-append}
use Rattle.punycode.specs.Punycode.{adapt, below, delimited, least, pass, passes, encode}
use Rattle.punycode.proofs.Integers.{integer_some}
use Rattle.punycode.proofs.Below.{below_yes, below_no, below_at_most, Least, nothing, next, least_finds}
use Rattle.punycode.proofs.Turns.{Side, under, equal, over, side, pass_below, pass_here, pass_above}

-- a pass at n, in front of at least k octets
module _ (after : ℕ → ℕ → ℕ → List ℕ) (b n k : ℕ) (later : (delta bias h : ℕ) → k ≤ length (after delta bias h)) where
  -- what is claimed of it
  abbrev Most : List ℕ → Type 0
  Most s = (delta bias h : ℕ) → k + length (below (n + 1) s) ≤ length (pass after b n s delta bias h) + length (below n s)

  pass_most : (s : List ℕ) → Most s
  unfolding pass below
  pass_most [] delta bias h = omega (arith, later (delta + 1) bias h)
  pass_most (c ∷ s) delta bias h = go (pass_most s) (side c n)
    where
      go : Most s → Side c n → k + length (below (n + 1) (c ∷ s)) ≤ length (pass after b n (c ∷ s) delta bias h) + length (below n (c ∷ s))
      go rest (under l) =
          rw (pass_below after b n c s delta bias h l, below_yes n c s l, below_yes (n + 1) c s (omega arith)) (omega (arith, rest (delta + 1) bias h))
      go rest (equal e) =
          rw (pass_here after b n c s delta bias h e, below_no n c s (omega arith), below_yes (n + 1) c s (omega arith))
          (simp length-append (omega (arith, rest 0 (adapt delta (h + 1) (eqb h b)) (h + 1), integer_some delta bias 36 delta)))
      go rest (over l) =
          rw (pass_above after b n c s delta bias h l, below_no n c s (omega arith), below_no (n + 1) c s (omega arith)) (rest delta bias h)

module _ (ps : List ℕ) (b : ℕ) where
  -- what is claimed of all passes, where f of them are enough
  abbrev All : ℕ → Type 0
  All f = (n delta bias h : ℕ) → length ps ≤ length (below n ps) + f → length ps ≤ length (passes f ps b n delta bias h) + length (below n ps)

  pub passes_most : (f : ℕ) → All f
  unfolding passes
  passes_most zero n delta bias h l = omega arith
  passes_most (suc f) n delta bias h l = go (passes_most f) (least n ps) refl (least_finds n ps)
    where
      go : All f → (o : Option ℕ) → least n ps ≡ o → Least n ps o → length ps ≤ length (passes (suc f) ps b n delta bias h) + length (below n ps)
      go later None e (nothing q) = omega (arith, ap length q)
      go later (Some m) e (next x) =
          let r : length ps ≤ length (below (m + 1) ps) + f = omega (arith, x.there, ap length x.none_between) in
          let p = pass_most (passes f ps b (m + 1)) b m (length ps - length (below (m + 1) ps)) (λ delta bias h. omega (arith, later (m + 1) delta bias h r)) ps (delta + (m - n) * (h + 1)) bias h in
          rw (passes, e) (omega (arith, p, ap length x.none_between, below_at_most (m + 1) ps))

delimited_most : (x : List ℕ) → length x ≤ length (delimited x)
unfolding delimited
delimited_most [] = zero-le
delimited_most (c ∷ x) = omega (arith, length-append x (45 ∷ []))

pub encode_most : (ps : List ℕ) → length ps ≤ length (encode ps)
unfolding encode
encode_most ps =
    let b = length (below 128 ps) in
    simp length-append (omega (arith, delimited_most (below 128 ps), passes_most ps b (length ps) 128 0 72 b (omega arith)))
