-- What is read are code points.
--     points_scalars    no surrogate, and nothing above U+10FFFF
-- Assumes nothing.
use Prim.Native.Nat.{ℕ, suc, zero, ◌+◌, ◌-◌, ◌*◌, ◌<◌, ◌≤◌}
use mathlib.Core.Path.{◌≡◌, refl, sym, ap, ◌∙◌}
use mathlib.Core.Bool.{Bool, true, false, ◌&&◌, ◌||◌, false≢true}
use mathlib.Core.List.{List, [], ◌∷◌}
use Rattle.std.specs.Prelude.{Option, Some, None}
use mathlib.Core.Logic.{◌⊎◌, inl, inr, ⊎_elim}
use native.Mathlib.Omega.{arith}
use borrow.Author.Tests.{ltb-true, leb-true, lt-ltb, le-leb}
use lib.Dec.{leb, ltb}
use Rattle.octets.specs.Options.{in_front}
use Rattle.octets.specs.Tests.{every}
use Rattle.octets.proofs.Tests.{by_test, and_left, and_right, all_below_lem}
use Rattle.utf8.specs.Utf8.{lead_of, tails, points, scalar, scalars}
use Rattle.utf8.specs.declared.Lead.{Lead}
use Rattle.utf8.proofs.Leading.{at_leads}

-- the numbers from low to high lie below a, or from b on below c
abbrev gap : ℕ → ℕ → ℕ → ℕ → ℕ → Bool
gap a b c low high = ltb high a || (leb b low && ltb high c)

gap_out : (a b c low high : ℕ) → gap a b c low high ≡ true → (high < a) ⊎ ((b ≤ low) × (high < c))
gap_out a b c low high e =
    by_test (ltb high a)
    (λ t. inl (ltb-true high a t))
    (λ t.
    let w : (leb b low && ltb high c) ≡ true = rw t at e in
    inr (leb-true b low (and_left (leb b low) (ltb high c) w), ltb-true high c (and_right (leb b low) (ltb high c) w)))

gap_below : (a b c low high : ℕ) → high < a → gap a b c low high ≡ true
gap_below a b c low high h = rw (lt-ltb high a h)

gap_above : (a b c low high : ℕ) → b ≤ low → high < c → gap a b c low high ≡ true
gap_above a b c low high h k =
    by_test (ltb high a) (λ t. rw t) (λ t. rw (t, le-leb b low h, lt-ltb high c k))

-- n octets are missing, the next of them from l to h, and p is what the number is so far: it will be a code point
able : ℕ → ℕ → ℕ → ℕ → Bool
able zero l h p = gap 0xD800 0xE000 0x110000 p p
able (suc zero) l h p = leb 0x80 l && gap 0xD800 0xE000 0x110000 (p * 64 + (l - 0x80)) (p * 64 + (h - 0x80))
able (suc (suc zero)) l h p = leb 0x80 l && gap 864 896 17408 (p * 64 + (l - 0x80)) (p * 64 + (h - 0x80))
able (suc (suc (suc zero))) l h p = leb 0x80 l && gap 0 14 272 (p * 64 + (l - 0x80)) (p * 64 + (h - 0x80))
able (suc (suc (suc (suc n)))) l h p = false

-- a number in such a range, alone and as the front of the next
module _ (a b c l h p x : ℕ) (e : (leb 0x80 l && gap a b c (p * 64 + (l - 0x80)) (p * 64 + (h - 0x80))) ≡ true) (i : l ≤ x) (j : x ≤ h) where
  from : 0x80 ≤ l
  from = leb-true 0x80 l (and_left (leb 0x80 l) _ e)

  sides : (p * 64 + (h - 0x80) < a) ⊎ ((b ≤ p * 64 + (l - 0x80)) × (p * 64 + (h - 0x80) < c))
  sides = gap_out a b c _ _ (and_right (leb 0x80 l) _ e)

  inside : gap a b c (p * 64 + (x - 0x80)) (p * 64 + (x - 0x80)) ≡ true
  inside =
      ⊎_elim
      (λ (t : p * 64 + (h - 0x80) < a). let f = from in gap_below a b c _ _ (omega arith))
      (λ (t : (b ≤ p * 64 + (l - 0x80)) × (p * 64 + (h - 0x80) < c)).
      let f = from in
      gap_above a b c _ _ (omega (arith, t.0)) (omega (arith, t.1)))
      sides

  wider : (a₁ b₁ c₁ : ℕ) → a * 64 ≤ a₁ → b₁ ≤ b * 64 → c * 64 ≤ c₁
      → gap a₁ b₁ c₁ ((p * 64 + (x - 0x80)) * 64 + (0x80 - 0x80)) ((p * 64 + (x - 0x80)) * 64 + (0xBF - 0x80)) ≡ true
  wider a₁ b₁ c₁ u v w =
      ⊎_elim
      (λ (t : p * 64 + (h - 0x80) < a). let f = from in gap_below a₁ b₁ c₁ _ _ (omega arith))
      (λ (t : (b ≤ p * 64 + (l - 0x80)) × (p * 64 + (h - 0x80) < c)).
      let f = from in
      gap_above a₁ b₁ c₁ _ _ (omega (arith, t.0)) (omega (arith, t.1)))
      sides

able_step : (n l h p x : ℕ) → able (suc n) l h p ≡ true → l ≤ x → x ≤ h → able n 0x80 0xBF (p * 64 + (x - 0x80)) ≡ true
unfolding able
able_step zero l h p x e i j = inside 0xD800 0xE000 0x110000 l h p x e i j
able_step (suc zero) l h p x e i j = wider 864 896 17408 l h p x e i j 0xD800 0xE000 0x110000 (omega arith) (omega arith) (omega arith)
able_step (suc (suc zero)) l h p x e i j = wider 0 14 272 l h p x e i j 864 896 17408 (omega arith) (omega arith) (omega arith)
able_step (suc (suc (suc n))) l h p x e i j = absurd (false≢true e)

-- so it is behind each first octet
led : Option Lead → ℕ → Bool
led None x = true
led (Some f) x = able f.following f.low f.high f.bits

lead_able : (x : ℕ) → led (lead_of x) x ≡ true
unfolding lead_of led able
lead_able = at_leads led (all_below_lem (λ x. led (lead_of x) x) 256 refl) (λ x. refl)

-- what was read, where there is something
all_scalar : Option (List ℕ) → Bool
all_scalar None = true
all_scalar (Some ps) = scalars ps

front_scalar : (p : ℕ) (o : Option (List ℕ)) → scalar p ≡ true → all_scalar o ≡ true → all_scalar (in_front p o) ≡ true
unfolding all_scalar in_front scalars every
front_scalar p None a b = refl
front_scalar p (Some ps) a b = rw (a, b)

tails_scalar : (s : List ℕ) (n l h p : ℕ) → able n l h p ≡ true → all_scalar (tails s n l h p) ≡ true
unfolding tails all_scalar able scalar scalars every led
tails_scalar [] zero l h p e = rw e
tails_scalar [] (suc n) l h p e = refl
tails_scalar (x ∷ s) (suc n) l h p e =
    by_test (leb l x && leb x h)
    (λ t.
    rw (tails, t)
    (tails_scalar s n 0x80 0xBF (p * 64 + (x - 0x80))
    (able_step n l h p x e (leb-true l x (and_left (leb l x) (leb x h) t)) (leb-true x h (and_right (leb l x) (leb x h) t)))))
    (λ t. rw (tails, t))
tails_scalar (x ∷ s) zero l h p e = go (λ m l h q e. tails_scalar s m l h q e) (lead_of x) refl (lead_able x)
  where
    go : ((m l h q : ℕ) → able m l h q ≡ true → all_scalar (tails s m l h q) ≡ true) → (o : Option Lead) → lead_of x ≡ o → led (lead_of x) x ≡ true
        → all_scalar (tails (x ∷ s) zero l h p) ≡ true
    go later None q t = rw (tails, q)
    go later (Some f) q t =
        rw (tails, q) (front_scalar p (tails s f.following f.low f.high f.bits) e (later f.following f.low f.high f.bits (ap (λ o. led o x) (sym q) ∙ t)))

points_scalar : (s : List ℕ) → all_scalar (points s) ≡ true
unfolding points all_scalar scalars every led
points_scalar [] = refl
points_scalar (x ∷ s) = go (lead_of x) refl (lead_able x)
  where
    go : (o : Option Lead) → lead_of x ≡ o → led (lead_of x) x ≡ true → all_scalar (points (x ∷ s)) ≡ true
    go None q t = rw (points, q)
    go (Some f) q t = rw (points, q) (tails_scalar s f.following f.low f.high f.bits (ap (λ o. led o x) (sym q) ∙ t))

pub points_scalars : (s ps : List ℕ) → points s ≡ Some ps → scalars ps ≡ true
unfolding all_scalar
points_scalars s ps e = ap all_scalar (sym e) ∙ points_scalar s
