-- What is read, written again, is the text that was read.
--     encoded_points    the octets of a text's code points
-- Assumes nothing.
use Prim.Native.Nat.{ℕ, suc, zero, ◌+◌, ◌-◌, ◌*◌, ◌/◌, ◌%◌, ◌<◌, ◌≤◌}
use mathlib.Core.Path.{◌≡◌, refl, sym, ap, ◌∙◌}
use mathlib.Core.Bool.{Bool, true, ◌&&◌, false≢true}
use mathlib.Core.List.{List, [], ◌∷◌, ◌++◌}
use Rattle.std.specs.Prelude.{Some, None, Option}
use native.Mathlib.Omega.{arith}
use borrow.Author.Tests.{ltb-true, leb-true, eqb-true, lt-ltb, le-ltb}
use lib.Dec.{leb, eqb}
use lib.ListN.{length}
use Rattle.octets.proofs.Options.{front_some}
use Rattle.octets.proofs.Tests.{by_test, and_left, and_right}
use Rattle.utf8.specs.Utf8.{lead_of, tails, points, encoded_one, encoded}
use Rattle.utf8.specs.declared.Lead.{Lead}
use Rattle.utf8.proofs.Leading.{tailing, rightly, lead_rightly}
use Rattle.utf8.proofs.RoundTrip.{tails_none, points_lead}

none_some : {P : Type 0} (w : List ℕ) → None ≡ Some w → P
none_some w p = let z : ◌≡◌ {A = ℕ} 0 1 = cc in absurd (omega arith)

-- an octet was missing, and this is what it was
tails_some : {P : Type 0} (s : List ℕ) (n l h p : ℕ) (ps : List ℕ) → tails s (suc n) l h p ≡ Some ps
    → ((y : ℕ) (t : List ℕ) → s ≡ y ∷ t → l ≤ y → y ≤ h → tails t n 0x80 0xBF (p * 64 + (y - 0x80)) ≡ Some ps → P) → P
unfolding tails
tails_some [] n l h p ps e k = none_some ps e
tails_some (y ∷ t) n l h p ps e k =
    by_test (leb l y && leb y h)
    (λ b. k y t refl (leb-true l y (and_left (leb l y) (leb y h) b)) (leb-true y h (and_right (leb l y) (leb y h) b)) (rw (tails, b) at e))
    (λ b. none_some ps (rw (tails, b) at e))

-- the octets of a code point, from the parts that were read
two : (q y : ℕ) → 2 ≤ q → q < 32 → 0x80 ≤ y → y ≤ 0xBF → encoded_one (q * 64 + (y - 0x80)) ≡ (0xC0 + q) ∷ y ∷ []
unfolding encoded_one
two q y a b c d =
    let u : (q * 64 + (y - 0x80)) / 64 ≡ q = omega arith in
    let v : 0x80 + (q * 64 + (y - 0x80)) % 64 ≡ y = omega arith in
    rw (le-ltb (q * 64 + (y - 0x80)) 0x80 (omega arith), lt-ltb (q * 64 + (y - 0x80)) 0x800 (omega arith), u, v)

three : (q y z p : ℕ) → p ≡ (q * 64 + (y - 0x80)) * 64 + (z - 0x80) → 0x800 ≤ p → q < 16 → 0x80 ≤ y → y ≤ 0xBF → 0x80 ≤ z → z ≤ 0xBF
    → encoded_one p ≡ (0xE0 + q) ∷ y ∷ z ∷ []
unfolding encoded_one
three q y z p e a b c d f g =
    let u : p / 4096 ≡ q = omega arith in
    let v : p / 64 ≡ q * 64 + (y - 0x80) = omega arith in
    let v₁ : 0x80 + p / 64 % 64 ≡ y = omega arith in
    let w : 0x80 + p % 64 ≡ z = omega arith in
    rw (le-ltb p 0x80 (omega arith), le-ltb p 0x800 (omega arith), lt-ltb p 0x10000 (omega arith), u, v₁, w)

four : (q y z w p : ℕ) → p ≡ ((q * 64 + (y - 0x80)) * 64 + (z - 0x80)) * 64 + (w - 0x80) → 0x10000 ≤ p → 0x80 ≤ y → y ≤ 0xBF → 0x80 ≤ z → z ≤ 0xBF → 0x80 ≤ w → w ≤ 0xBF
    → encoded_one p ≡ (0xF0 + q) ∷ y ∷ z ∷ w ∷ []
unfolding encoded_one
four q y z w p e a c d f g i j =
    let u : p / 262144 ≡ q = omega arith in
    let v : p / 4096 ≡ q * 64 + (y - 0x80) = omega arith in
    let v₁ : 0x80 + p / 4096 % 64 ≡ y = omega arith in
    let v₂ : p / 64 ≡ (q * 64 + (y - 0x80)) * 64 + (z - 0x80) = omega arith in
    let v₃ : 0x80 + p / 64 % 64 ≡ z = omega arith in
    let v₄ : 0x80 + p % 64 ≡ w = omega arith in
    rw (le-ltb p 0x80 (omega arith), le-ltb p 0x800 (omega arith), le-ltb p 0x10000 (omega arith), u, v₁, v₃, v₄)

-- the bounds that are left where a first octet says more than its own number
module _ (l h : ℕ) (a : Bool) (e : (tailing l h && a) ≡ true) where
  least : 0x80 ≤ l
  unfolding tailing
  least = leb-true 0x80 l (and_left (leb 0x80 l) (leb h 0xBF) (and_left (tailing l h) a e))

  most : h ≤ 0xBF
  unfolding tailing
  most = leb-true h 0xBF (and_right (leb 0x80 l) (leb h 0xBF) (and_left (tailing l h) a e))

-- The rest is a tail of a tail, so the induction is over a count of the length.
module _ (k : ℕ) (ih : (s ps : List ℕ) → length s ≤ k → points s ≡ Some ps → encoded ps ≡ s) where
  -- after the last octet of a code point
  ends : (s : List ℕ) (l h p : ℕ) (ps w : List ℕ) → length s ≤ k → encoded_one p ≡ w → tails s 0 l h p ≡ Some ps → encoded ps ≡ w ++ s
  unfolding encoded
  ends s l h p ps w b e t =
      let f = front_some p (points s) ps (sym (tails_none s l h p) ∙ t) in
      rw (f.1.1, encoded, e, ih s f.0 b f.1.0)

  read : (m l h q x : ℕ) (s ps : List ℕ) → length s ≤ k → rightly m l h q x ≡ true → tails s m l h q ≡ Some ps → encoded ps ≡ x ∷ s
  unfolding rightly encoded_one
  read zero l h q x s ps b r t =
      let e : q ≡ x = eqb-true q x (and_left (eqb q x) _ r) in
      ends s l h q ps (x ∷ []) b (rw (e, lt-ltb x 0x80 (ltb-true x 0x80 (and_right (eqb q x) _ r)))) t
  read (suc zero) l h q x s ps b r t =
      let i : 0x80 ≤ l = least l h _ r in
      let j : h ≤ 0xBF = most l h _ r in
      let r₁ = and_right (tailing l h) _ r in
      let e : 0xC0 + q ≡ x = eqb-true (0xC0 + q) x (and_left (eqb (0xC0 + q) x) _ r₁) in
      let r₂ = and_right (eqb (0xC0 + q) x) _ r₁ in
      let f : 2 ≤ q = leb-true 2 q (and_left (leb 2 q) _ r₂) in
      let g : q < 32 = ltb-true q 32 (and_right (leb 2 q) _ r₂) in
      tails_some s 0 l h q ps t
      (λ y s₁ c₁ l₁ h₁ t₁.
      rw (c₁, ← e)
      (ends s₁ 0x80 0xBF _ ps ((0xC0 + q) ∷ y ∷ []) (omega (arith, ap length c₁)) (two q y f g (omega arith) (omega arith)) t₁))
  read (suc (suc zero)) l h q x s ps b r t =
      let i : 0x80 ≤ l = least l h _ r in
      let j : h ≤ 0xBF = most l h _ r in
      let r₁ = and_right (tailing l h) _ r in
      let e : 0xE0 + q ≡ x = eqb-true (0xE0 + q) x (and_left (eqb (0xE0 + q) x) _ r₁) in
      let r₂ = and_right (eqb (0xE0 + q) x) _ r₁ in
      let f : 0x800 ≤ q * 4096 + (l - 0x80) * 64 = leb-true 0x800 _ (and_left (leb 0x800 (q * 4096 + (l - 0x80) * 64)) _ r₂) in
      let g : q < 16 = ltb-true q 16 (and_right (leb 0x800 (q * 4096 + (l - 0x80) * 64)) _ r₂) in
      tails_some s 1 l h q ps t
      (λ y s₁ c₁ l₁ h₁ t₁.
      tails_some s₁ 0 0x80 0xBF _ ps t₁
      (λ z s₂ c₂ l₂ h₂ t₂.
      rw (c₁, c₂, ← e)
      (ends s₂ 0x80 0xBF _ ps ((0xE0 + q) ∷ y ∷ z ∷ []) (omega (arith, ap length c₁, ap length c₂))
      (three q y z _ refl (omega arith) g (omega arith) (omega arith) l₂ h₂) t₂)))
  read (suc (suc (suc zero))) l h q x s ps b r t =
      let i : 0x80 ≤ l = least l h _ r in
      let j : h ≤ 0xBF = most l h _ r in
      let r₁ = and_right (tailing l h) _ r in
      let e : 0xF0 + q ≡ x = eqb-true (0xF0 + q) x (and_left (eqb (0xF0 + q) x) _ r₁) in
      let f : 0x10000 ≤ q * 262144 + (l - 0x80) * 4096 = leb-true 0x10000 _ (and_right (eqb (0xF0 + q) x) _ r₁) in
      tails_some s 2 l h q ps t
      (λ y s₁ c₁ l₁ h₁ t₁.
      tails_some s₁ 1 0x80 0xBF _ ps t₁
      (λ z s₂ c₂ l₂ h₂ t₂.
      tails_some s₂ 0 0x80 0xBF _ ps t₂
      (λ w s₃ c₃ l₃ h₃ t₃.
      rw (c₁, c₂, c₃, ← e)
      (ends s₃ 0x80 0xBF _ ps ((0xF0 + q) ∷ y ∷ z ∷ w ∷ []) (omega (arith, ap length c₁, ap length c₂, ap length c₃))
      (four q y z w _ refl (omega arith) (omega arith) (omega arith) l₂ h₂ l₃ h₃) t₃))))
  read (suc (suc (suc (suc n)))) l h q x s ps b r t = absurd (false≢true r)

  here : (s ps : List ℕ) → length s ≤ suc k → points s ≡ Some ps → encoded ps ≡ s
  unfolding points encoded
  here [] ps b e = let c : [] ≡ ps = cc in rw (← c)
  here (x ∷ s) ps b e = go (lead_of x) refl
    where
      go : (o : Option Lead) → lead_of x ≡ o → encoded ps ≡ x ∷ s
      go None q = none_some ps (rw (points, q) at e)
      go (Some f) q =
          read f.following f.low f.high f.bits x s ps (omega arith) (lead_rightly x f q) (sym (points_lead x s f q) ∙ e)

empty : (s ps : List ℕ) → length s ≤ 0 → points s ≡ Some ps → encoded ps ≡ s
unfolding points encoded
empty [] ps b e = let c : [] ≡ ps = cc in rw (← c)
empty (x ∷ s) ps b e = absurd (omega arith)

back : (k : ℕ) (s ps : List ℕ) → length s ≤ k → points s ≡ Some ps → encoded ps ≡ s
back zero s ps b e = empty s ps b e
back (suc k) s ps b e = here k (λ s ps b e. back k s ps b e) s ps b e

pub encoded_points : (s ps : List ℕ) → points s ≡ Some ps → encoded ps ≡ s
encoded_points s ps e = back (length s) s ps (omega arith) e
