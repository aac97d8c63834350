-- The code points below a number, and the smallest of the others.
--     below_yes, below_no        one code point in front
--     below_at_most, below_full  they are no more than all, and as many only where they are all
--     below_basic                those below 128
--     Next                       m is the smallest code point of s from n on
--     Least, least_finds         what `least` finds: there is none, or the next one
-- Assumes nothing.
use Prim.Native.Nat.{ℕ, suc, ◌+◌, ◌<◌, ◌≤◌, zero-le}
use mathlib.Core.Path.{◌≡◌, refl, sym, ap, ◌∙◌}
use mathlib.Core.Bool.{true, false}
use mathlib.Core.List.{List, [], ◌∷◌}
use Rattle.std.specs.Prelude.{Option, Some, None}
use mathlib.Core.Logic.{⊎_elim}
use native.Mathlib.Omega.{arith}
use borrow.Author.Tests.{ltb-true, ltb-false, lt-ltb, le-ltb}
use lib.Dec.{ltb}
use lib.ListN.{length}
use Rattle.octets.specs.Tests.{every}
use Rattle.octets.proofs.Lists.{lt_or_le}
use Rattle.octets.proofs.Tests.{by_test}
use Rattle.punycode.specs.Punycode.{below, smaller, least, all_basic}

pub below_yes : (n c : ℕ) (s : List ℕ) → c < n → below n (c ∷ s) ≡ c ∷ below n s
unfolding below
below_yes n c s h = rw (below, lt-ltb c n h)

pub below_no : (n c : ℕ) (s : List ℕ) → n ≤ c → below n (c ∷ s) ≡ below n s
unfolding below
below_no n c s h = rw (below, le-ltb c n h)

pub below_at_most : (n : ℕ) (s : List ℕ) → length (below n s) ≤ length s
unfolding below
below_at_most n [] = zero-le
below_at_most n (c ∷ s) =
    ⊎_elim
    (λ (l : c < n). rw (below_yes n c s l) (omega (arith, below_at_most n s)))
    (λ (l : n ≤ c). rw (below_no n c s l) (omega (arith, below_at_most n s)))
    (lt_or_le c n)

pub below_full : (n : ℕ) (s : List ℕ) → length s ≤ length (below n s) → below n s ≡ s
unfolding below
below_full n [] h = refl
below_full n (c ∷ s) h =
    ⊎_elim
    (λ (l : c < n). let k : suc (length s) ≤ suc (length (below n s)) = rw (below_yes n c s l) at h in below_yes n c s l ∙ ap (λ (t : List ℕ). c ∷ t) (below_full n s (omega arith)))
    (λ (l : n ≤ c). let k : suc (length s) ≤ length (below n s) = rw (below_no n c s l) at h in absurd (omega (arith, below_at_most n s)))
    (lt_or_le c n)

pub below_basic : (s : List ℕ) → all_basic (below 128 s) ≡ true
unfolding below every
below_basic [] = refl
below_basic (c ∷ s) =
    ⊎_elim
    (λ (l : c < 128). rw (below_yes 128 c s l) (rw (lt-ltb c 128 l) (below_basic s)))
    (λ (l : 128 ≤ c). rw (below_no 128 c s l) (below_basic s))
    (lt_or_le c 128)

pub record Next (n m : ℕ) (s : List ℕ) : Type 0 where
  pub from : n ≤ m
  pub none_between : below m s ≡ below n s
  pub there : length (below m s) < length (below (m + 1) s)

-- below more there is at least as much
below_grows : (n m : ℕ) → n ≤ m → (s : List ℕ) → length (below n s) ≤ length (below m s)
unfolding below
below_grows n m h [] = zero-le
below_grows n m h (c ∷ s) =
    ⊎_elim
    (λ (l : c < n). rw (below_yes n c s l, below_yes m c s (omega arith)) (omega (arith, below_grows n m h s)))
    (λ (l : n ≤ c).
    rw (below_no n c s l)
    (⊎_elim
    (λ (k : c < m). rw (below_yes m c s k) (omega (arith, below_grows n m h s)))
    (λ (k : m ≤ c). rw (below_no m c s k) (below_grows n m h s))
    (lt_or_le c m)))
    (lt_or_le c n)

-- and what is no more is the same
below_same : (n m : ℕ) → n ≤ m → (s : List ℕ) → length (below m s) ≤ length (below n s) → below m s ≡ below n s
unfolding below
below_same n m h [] k = refl
below_same n m h (c ∷ s) k =
    ⊎_elim
    (λ (l : c < n).
    let a : below n (c ∷ s) ≡ c ∷ below n s = below_yes n c s l in
    let b : below m (c ∷ s) ≡ c ∷ below m s = below_yes m c s (omega arith) in
    let j : suc (length (below m s)) ≤ suc (length (below n s)) = rw (a, b) at k in
    b ∙ ap (λ (t : List ℕ). c ∷ t) (below_same n m h s (omega arith)) ∙ sym a)
    (λ (l : n ≤ c).
    let a : below n (c ∷ s) ≡ below n s = below_no n c s l in
    ⊎_elim
    (λ (g : c < m). let j : suc (length (below m s)) ≤ length (below n s) = rw (a, below_yes m c s g) at k in absurd (omega (arith, below_grows n m h s)))
    (λ (g : m ≤ c). let j : length (below m s) ≤ length (below n s) = rw (a, below_no m c s g) at k in below_no m c s g ∙ below_same n m h s j ∙ sym a)
    (lt_or_le c m))
    (lt_or_le c n)

pub data Least (n : ℕ) (s : List ℕ) : Option ℕ → Type 0 where
  nothing : below n s ≡ s → Least n s None
  next : {m : ℕ} → Next n m s → Least n s (Some m)

-- one code point in front, by what the others give
least_below : (n c : ℕ) (s : List ℕ) → c < n → {o : Option ℕ} → Least n s o → Least n (c ∷ s) o
least_below n c s l (nothing e) = nothing (below_yes n c s l ∙ ap (λ (t : List ℕ). c ∷ t) e)
least_below n c s l (next {m = m} e) =
    let a : below m (c ∷ s) ≡ c ∷ below m s = below_yes m c s (omega (arith, e.from)) in
    let b : below (m + 1) (c ∷ s) ≡ c ∷ below (m + 1) s = below_yes (m + 1) c s (omega (arith, e.from)) in
    next (record { from = e.from; none_between = a ∙ ap (λ (t : List ℕ). c ∷ t) e.none_between ∙ sym (below_yes n c s l); there = rw (a, b) (omega (arith, e.there)) })

-- c itself is the least
here : (n c : ℕ) (s : List ℕ) → n ≤ c → length (below c s) ≤ length (below n s) → Next n c (c ∷ s)
here n c s l h =
    let a : below c (c ∷ s) ≡ below c s = below_no c c s (omega arith) in
    record {
      from = l;
      none_between = a ∙ below_same n c l s h ∙ sym (below_no n c s l);
      there = rw (a, below_yes (c + 1) c s (omega arith)) (omega (arith, below_grows c (c + 1) (omega arith) s));
    }

-- c is not below the least of the others
behind : (n m c : ℕ) (s : List ℕ) → m ≤ c → Next n m s → Next n m (c ∷ s)
behind n m c s l e =
    let a : below m (c ∷ s) ≡ below m s = below_no m c s l in
    record {
      from = e.from;
      none_between = a ∙ e.none_between ∙ sym (below_no n c s (omega (arith, e.from)));
      there =
          rw a
          (⊎_elim
          (λ (k : c < m + 1). rw (below_yes (m + 1) c s k) (omega (arith, e.there)))
          (λ (k : m + 1 ≤ c). rw (below_no (m + 1) c s k) e.there)
          (lt_or_le c (m + 1)));
    }

least_from : (n c : ℕ) (s : List ℕ) → n ≤ c → {o : Option ℕ} → Least n s o → Least n (c ∷ s) (smaller c o)
least_from n c s l (nothing e) = next (here n c s l (rw e (below_at_most c s)))
least_from n c s l (next {m = m} e) = by_test (ltb c m) front back
  where
    front : ltb c m ≡ true → Least n (c ∷ s) (smaller c (Some m))
    front q =
        let k : length (below c s) ≤ length (below m s) = below_grows c m (omega (arith, ltb-true c m q)) s in
        rw q (next (here n c s l (rw e.none_between at k)))

    back : ltb c m ≡ false → Least n (c ∷ s) (smaller c (Some m))
    back q = rw q (next (behind n m c s (ltb-false c m q) e))

pub least_finds : (n : ℕ) (s : List ℕ) → Least n s (least n s)
unfolding least below
least_finds n [] = nothing refl
least_finds n (c ∷ s) =
    by_test (ltb c n)
    (λ q. rw (least, q) (least_below n c s (ltb-true c n q) (least_finds n s)))
    (λ q. rw (least, q) (least_from n c s (ltb-false c n q) (least_finds n s)))
