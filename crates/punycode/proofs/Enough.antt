-- All passes, with no count of them: as many as there are code points are enough.
--     found          the smallest code point is there, and there is none between
--     passes_none    nothing is left to be written
--     passes_next    the next pass, and those behind it
--     least_most     the smallest code point is one of the code points
-- Assumes nothing.
use Prim.Native.Nat.{ℕ, suc, zero, ◌+◌, ◌-◌, ◌*◌, ◌<◌, ◌≤◌}
use mathlib.Core.Path.{◌≡◌, refl, sym, ap, ◌∙◌}
use mathlib.Core.List.{List, [], ◌∷◌}
use Rattle.std.specs.Prelude.{Option, Some, None}
use native.Mathlib.Omega.{arith}
use lib.Dec.{ltb}
use lib.ListN.{length, get_or}
use Rattle.octets.proofs.Tests.{by_test}
use Rattle.punycode.specs.Punycode.{below, smaller, least, pass, passes}
use Rattle.punycode.proofs.Integers.{some_same}
use Rattle.punycode.proofs.Below.{below_at_most, Next, Least, next, least_finds}

pub passes_none : (f : ℕ) (ps : List ℕ) (b n delta bias h : ℕ) → least n ps ≡ None → passes f ps b n delta bias h ≡ []
unfolding passes
passes_none zero ps b n delta bias h e = refl
passes_none (suc f) ps b n delta bias h e = rw (passes, e)

passes_some : (f : ℕ) (ps : List ℕ) (b n delta bias h m : ℕ) → least n ps ≡ Some m
    → passes (suc f) ps b n delta bias h ≡ pass (passes f ps b (m + 1)) b m ps (delta + (m - n) * (h + 1)) bias h
unfolding passes
passes_some f ps b n delta bias h m e = rw (passes, e)

-- the least code point is one more that is below what comes behind it
pub found : (n m : ℕ) (ps : List ℕ) → least n ps ≡ Some m → Next n m ps
found n m ps e = go (rw e at (least_finds n ps))
  where
    go : Least n ps (Some m) → Next n m ps
    go (next x) = x

less_left : (n m : ℕ) (ps : List ℕ) (f : ℕ) → least n ps ≡ Some m → length ps ≤ length (below n ps) + suc f → length ps ≤ length (below (m + 1) ps) + f
less_left n m ps f e h =
    let x = found n m ps e in
    omega (arith, x.there, ap length x.none_between)

never : (n m : ℕ) (ps : List ℕ) → least n ps ≡ Some m → length ps ≤ length (below n ps) + 0 → ⊥
never n m ps e h =
    let x = found n m ps e in
    omega (arith, x.there, ap length x.none_between, below_at_most (m + 1) ps)

by_option : {P : Type 0} (o : Option ℕ) → (o ≡ None → P) → ((m : ℕ) → o ≡ Some m → P) → P
by_option None f g = f refl
by_option (Some m) f g = g m refl

both_none : (f g : ℕ) (ps : List ℕ) (b n delta bias h : ℕ) → least n ps ≡ None → passes f ps b n delta bias h ≡ passes g ps b n delta bias h
both_none f g ps b n delta bias h e = passes_none f ps b n delta bias h e ∙ sym (passes_none g ps b n delta bias h e)

passes_any : (f g : ℕ) (ps : List ℕ) (b n : ℕ) → length ps ≤ length (below n ps) + f → length ps ≤ length (below n ps) + g → (delta bias h : ℕ)
    → passes f ps b n delta bias h ≡ passes g ps b n delta bias h
passes_any zero g ps b n k l delta bias h =
    by_option (least n ps) (λ e. both_none zero g ps b n delta bias h e) (λ m e. absurd (never n m ps e k))
passes_any (suc f) zero ps b n k l delta bias h =
    by_option (least n ps) (λ e. both_none (suc f) zero ps b n delta bias h e) (λ m e. absurd (never n m ps e l))
passes_any (suc f) (suc g) ps b n k l delta bias h =
    by_option (least n ps)
    (λ e. both_none (suc f) (suc g) ps b n delta bias h e)
    (λ m e.
    passes_some f ps b n delta bias h m e
    ∙ ap (λ (after : ℕ → ℕ → ℕ → List ℕ). pass after b m ps (delta + (m - n) * (h + 1)) bias h)
    (λ i x y z. passes_any f g ps b (m + 1) (less_left n m ps f e k) (less_left n m ps g e l) x y z i)
    ∙ sym (passes_some g ps b n delta bias h m e))

pub passes_next : (ps : List ℕ) (b n delta bias h m : ℕ) → least n ps ≡ Some m
    → passes (length ps) ps b n delta bias h ≡ pass (passes (length ps) ps b (m + 1)) b m ps (delta + (m - n) * (h + 1)) bias h
passes_next ps b n delta bias h m e =
    passes_any (length ps) (suc (length ps)) ps b n (omega arith) (omega arith) delta bias h ∙ passes_some (length ps) ps b n delta bias h m e

-- the least is one of the code points
smaller_most : (c L : ℕ) → c < L → (o : Option ℕ) → ((m : ℕ) → o ≡ Some m → m < L) → (m : ℕ) → smaller c o ≡ Some m → m < L
smaller_most c L l None h m e = let q : c ≡ m = cc in omega arith
smaller_most c L l (Some k) h m e =
    by_test (ltb c k)
    (λ t. let q : c ≡ m = some_same c m (rw t at e) in omega arith)
    (λ t. let q : k ≡ m = some_same k m (rw t at e) in let r : k < L = h k refl in omega arith)

pub least_most : (L n : ℕ) (s : List ℕ) → ((i : ℕ) → get_or s i 0 < L) → (m : ℕ) → least n s ≡ Some m → m < L
unfolding least
least_most L n [] h m e = let z : ◌≡◌ {A = ℕ} 0 1 = cc in absurd (omega arith)
least_most L n (c ∷ s) h m e = go (λ m q. least_most L n s (λ i. h (suc i)) m q)
  where
    go : ((m : ℕ) → least n s ≡ Some m → m < L) → m < L
    go later =
        by_test (ltb c n)
        (λ t. later m (rw (least, t) at e))
        (λ t. smaller_most c L (h 0) (least n s) later m (rw (least, t) at e))
