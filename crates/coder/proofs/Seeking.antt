-- The smallest code point from n on: what std's `min` finds of those that are not below n.
--     min_front     one number more in front
--     least_is      what is found is the smallest one as its definition has it
-- Assumes nothing.
use Rattle.std.proofs.Common.{◌≡◌, ℕ, ◌<◌, ◌≤◌, cond, List, [], ◌∷◌, Option, Some, leb, ltb, min, arith, refl, ap, ◌∙◌}
use Rattle.std.specs.List.{filter, reduce, fold}
use borrow.Author.Tests.{le-leb, lt-leb, ltb-true, ltb-false}
use Rattle.octets.proofs.Tests.{by_test}
use Rattle.punycode.specs.Punycode.{smaller, least}

min_test : (c m : ℕ) → min c m ≡ cond (ltb c m) c m
min_test c m =
    by_test (ltb c m)
    (λ e. let l : c < m = ltb-true c m e in rw e (omega arith))
    (λ e. let l : m ≤ c = ltb-false c m e in rw e (omega arith))

fold_front : (c x : ℕ) (s : List ℕ) → fold min (min c x) s ≡ min c (fold min x s)
fold_front c x [] = refl
fold_front c x (y ∷ s) =
    let e : min (min c x) y ≡ min c (min x y) = omega arith in
    rw e (fold_front c (min x y) s)

min_front : (c : ℕ) (s : List ℕ) → reduce min (c ∷ s) ≡ smaller c (reduce min s)
min_front c [] = refl
min_front c (x ∷ s) = ap Some (fold_front c x s ∙ min_test c (fold min x s))

kept : (n : ℕ) (ps : List ℕ) → reduce min (filter (λ c. leb n c) ps) ≡ least n ps
unfolding least
kept n [] = refl
kept n (c ∷ s) =
    by_test (ltb c n)
    (λ e. rw (least, e, lt-leb n c (ltb-true c n e)) (kept n s))
    (λ e. rw (least, e, le-leb n c (ltb-false c n e)) (min_front c (filter (λ c. leb n c) s) ∙ rw (kept n s)))

pub least_is : (n : ℕ) (ps : List ℕ) (r : Option ℕ) → r ≡ reduce min (filter (λ c. leb n c) ps) → r ≡ least n ps
least_is n ps r e = e ∙ kept n ps
