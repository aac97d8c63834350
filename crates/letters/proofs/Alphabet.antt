-- The alphabet: what characters stand for, and the table that has it for each octet.
--     chosen            what holds of both ways that a test can go
--     below             a value is below 64
--     is_value, is_pad, is_other    a sign by its number
--     sign_of_letter    the sign of a value's letter is the value
--     tabled            the table once the first values are in it, with what `signs` asks
--     the rulesets      lettering for `letters`, tabling for `signs`, finding for `sign_of`
-- Assumes nothing.
use Prim.Native.Nat.{ℕ, zero, suc, ◌+◌, ◌-◌, ◌<◌, ◌≤◌}
use mathlib.Core.Path.{◌≡◌, refl, sym, ap, ◌∙◌}
use mathlib.Core.Bool.{Bool, true, false, cond}
use mathlib.Core.List.{List}
use native.Mathlib.Numerals.{add-one}
use native.Mathlib.Omega.{arith}
use borrow.Author.Rules.{rules}
use borrow.Author.Tests.{eqb-true, leb-true}
use lib.Dec.{leb, eqb}
use lib.ListN.{get_or, set, replicate}
use Rattle.octets.specs.Octets.{ascii}
use Rattle.octets.proofs.Tests.{and_right, all_below_lem}
use Rattle.letters.specs.Base64.{letter, sign_of, between, pad}
use Rattle.letters.specs.Tables.{Letters, code_of, Signs}
use Rattle.letters.specs.declared.Sign.{Sign}
use Rattle.letters.specs.declared.Sign.TheVariants.{Value, Pad, Other}

-- what holds of both ways that a test can go
pub chosen : {A : Type 0} (P : A → Type 0) (b : Bool) (x y : A) → (b ≡ true → P x) → (b ≡ false → P y) → P (cond b x y)
chosen P true x y f g = f refl
chosen P false x y f g = g refl

upper : (first last x : ℕ) → between first last x ≡ true → x ≤ last
upper first last x e = leb-true x last (and_right (leb first x) (leb x last) e)

Small : Sign → Type 0
Small s = (p : ℕ) → s ≡ Value p → p < 64

small : (n : ℕ) → n < 64 → Small (Value n)
unfolding Small
small n h p e = let q : n ≡ p = cc in omega arith

no_value_pad : Small Pad
unfolding Small
no_value_pad p e = let z : ◌≡◌ {A = ℕ} 0 1 = cc in omega arith

no_value_other : Small Other
unfolding Small
no_value_other p e = let z : ◌≡◌ {A = ℕ} 0 1 = cc in omega arith

all_small : (x : ℕ) → Small (sign_of x)
unfolding sign_of
all_small x =
    chosen Small (between 65 90 x) (Value (x - 65)) _ (λ t. small (x - 65) (omega (arith, upper 65 90 x t)))
    λ _. chosen Small (between 97 122 x) (Value (x - 97 + 26)) _ (λ t. small (x - 97 + 26) (omega (arith, upper 97 122 x t)))
    λ _. chosen Small (between 48 57 x) (Value (x - 48 + 52)) _ (λ t. small (x - 48 + 52) (omega (arith, upper 48 57 x t)))
    λ _. chosen Small (eqb x 43) (Value 62) _ (λ _. small 62 (omega arith))
    λ _. chosen Small (eqb x 47) (Value 63) _ (λ _. small 63 (omega arith))
    λ _. chosen Small (eqb x pad) Pad Other (λ _. no_value_pad) (λ _. no_value_other)

pub below : (x p : ℕ) → sign_of x ≡ Value p → p < 64
unfolding Small
below x p e = all_small x p e

-- a sign by its number
module _ (s : Sign) (small : (p : ℕ) → s ≡ Value p → p < 64) where
  pub is_value : code_of s < 64 → Value (code_of s) ≡ s
  unfolding code_of
  is_value h = go s refl
    where
      go : (t : Sign) → s ≡ t → Value (code_of s) ≡ s
      go (Value v) e = rw e
      go Pad e = absurd (omega (arith, ap code_of e))
      go Other e = absurd (omega (arith, ap code_of e))

  pub is_pad : code_of s ≡ 64 → Pad ≡ s
  unfolding code_of
  is_pad h = go s refl
    where
      go : (t : Sign) → s ≡ t → Pad ≡ s
      go (Value v) e = absurd (omega (arith, ap code_of e, small v e))
      go Pad e = sym e
      go Other e = absurd (omega (arith, ap code_of e))

  pub is_other : (code_of s < 64 → ⊥) → (code_of s ≡ 64 → ⊥) → Other ≡ s
  unfolding code_of
  is_other h k = go s refl
    where
      go : (t : Sign) → s ≡ t → Other ≡ s
      go (Value v) e = absurd (h (omega (arith, ap code_of e, small v e)))
      go Pad e = absurd (k (ap code_of e))
      go Other e = sym e

letter_known : (v : ℕ) → v < 64 → eqb (code_of (sign_of (letter v))) v ≡ true
unfolding sign_of letter code_of
letter_known v h = all_below_lem (λ v. eqb (code_of (sign_of (letter v))) v) 64 refl v h

pub sign_of_letter : (v : ℕ) → v < 64 → sign_of (letter v) ≡ Value v
sign_of_letter v h =
    let e : code_of (sign_of (letter v)) ≡ v = eqb-true _ v (letter_known v h) in
    sym (is_value (sign_of (letter v)) (below (letter v)) (omega arith)) ∙ ap Value e

-- the table once the values below n are in it
unfoldable pub tabled : ℕ → List ℕ
tabled zero = replicate 256 65
tabled (suc n) = set (tabled n) (letter n) n

table_known : (x : ℕ) → x < 256 → eqb (get_or (set (tabled 64) 61 64) x 0) (code_of (sign_of x)) ≡ true
unfolding sign_of letter code_of tabled
table_known x h = all_below_lem (λ x. eqb (get_or (set (tabled 64) 61 64) x 0) (code_of (sign_of x))) 256 refl x h

pub whole : Signs (set (tabled 64) 61 64)
whole = record { at = λ x h. eqb-true _ _ (table_known x h) }

-- `letters`
abbrev alphabet : List ℕ
alphabet = ascii "ABCDEFGHIJKLMNOPQRSTUVWXYZabcdefghijklmnopqrstuvwxyz0123456789+/"

alphabet_known : (v : ℕ) → v < 64 → eqb (get_or alphabet v 0) (letter v) ≡ true
unfolding letter
alphabet_known v h = all_below_lem (λ v. eqb (get_or alphabet v 0) (letter v)) 64 refl v h

pub all_letters : Letters alphabet
all_letters = record { at = λ v h. eqb-true _ _ (alphabet_known v h) }

pub ruleset lettering = (all_letters, rules)

-- `sign_of` by its tests
module _ (x v : ℕ) (e : v ≡ code_of (sign_of x)) where
  pub found_value : v < 64 → Value v ≡ sign_of x
  found_value k = rw e (is_value (sign_of x) (below x) (omega arith))

  pub found_pad : v ≡ 64 → Pad ≡ sign_of x
  found_pad k = is_pad (sign_of x) (below x) (sym e ∙ k)

  pub found_other : 64 ≤ v → (v ≡ 64 → ⊥) → Other ≡ sign_of x
  found_other k l = is_other (sign_of x) (below x) (λ u. omega arith) (λ u. l (e ∙ u))

pub ruleset finding = (found_value, found_pad, found_other, rules)

-- `signs`
pub tabled_none : replicate 256 65 ≡ tabled 0
unfolding tabled
tabled_none = refl

pub tabled_more : (t : List ℕ) (v x : ℕ) → t ≡ tabled v → x ≡ letter v → set t x v ≡ tabled (v + 1)
unfolding tabled
tabled_more t v x e q = rw (add-one, e, q)

pub tabled_all : (t : List ℕ) (v : ℕ) → t ≡ tabled v → v ≤ 64 → 64 ≤ v → Signs (set t 61 64)
tabled_all t v e h k = let q : v ≡ 64 = omega arith in rw (e, q) whole

pub ruleset tabling = (tabled_none, tabled_more, tabled_all, rules)
