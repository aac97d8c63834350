-- The characters that an encoded text has.
--     encode_alphabetic            letters, digits, "+", "/" and "=" alone, and so
--     encode_free                  none of its characters passes a test that only other characters pass: no blank, CR, LF or ";"
--     one_other .. blank_other     one character, two characters, and blanks, that stand for nothing
-- Assumes nothing.
use Prim.Native.Nat.{ℕ, ◌≤◌}
use mathlib.Core.Path.{◌≡◌, refl, ap}
use mathlib.Core.Bool.{Bool, true, false, ◌||◌}
use mathlib.Core.List.{List, [], ◌∷◌}
use mathlib.Core.Logic.{⊎_elim}
use native.Mathlib.Omega.{arith}
use borrow.Author.Tests.{eqb-true, le-ltb, ne_eqb}
use lib.Dec.{eqb}
use Rattle.octets.specs.Octets.{blank}
use Rattle.octets.proofs.Lists.{lt_or_le}
use Rattle.letters.specs.Base64.{letter, sign_of, encode}
use Rattle.letters.specs.Alphabetic.{Free, Alphabetic}
use Rattle.letters.proofs.Alphabet.{sign_of_letter}
use Rattle.letters.specs.declared.Sign.TheVariants.{Value, Other}

-- a letter stands for something, whatever it is the letter of
letter_in : (v : ℕ) → sign_of (letter v) ≡ Other → ⊥
unfolding sign_of letter
letter_in v e = ⊎_elim (λ l. of_value (sign_of_letter v l)) of_slash (lt_or_le v 64)
  where
    of_value : sign_of (letter v) ≡ Value v → ⊥
    of_value q = let z : ◌≡◌ {A = ℕ} 0 1 = cc in omega arith

    of_slash : 64 ≤ v → ⊥
    of_slash l =
        let q : letter v ≡ 47 = rw (le-ltb v 26 (omega arith), le-ltb v 52 (omega arith), le-ltb v 62 (omega arith), ne_eqb v 62 (omega arith)) in
        let z : ◌≡◌ {A = ℕ} 0 1 = (let r = ap sign_of q in cc) in
        omega arith

pad_in : sign_of 61 ≡ Other → ⊥
unfolding sign_of
pad_in e = let z : ◌≡◌ {A = ℕ} 0 1 = cc in omega arith

pub encode_alphabetic : (s : List ℕ) → Alphabetic (encode s)
unfolding encode Alphabetic
encode_alphabetic [] = tt
encode_alphabetic (a ∷ []) = (letter_in _, (letter_in _, (pad_in, (pad_in, tt))))
encode_alphabetic (a ∷ b ∷ []) = (letter_in _, (letter_in _, (letter_in _, (pad_in, tt))))
encode_alphabetic (a ∷ b ∷ c ∷ s) = (letter_in _, (letter_in _, (letter_in _, (letter_in _, encode_alphabetic s))))

module _ (test : ℕ → Bool) (other : (x : ℕ) → test x ≡ true → sign_of x ≡ Other) where
  pub alphabetic_free : (t : List ℕ) → Alphabetic t → Free test t
  unfolding Alphabetic Free
  alphabetic_free [] h = tt
  alphabetic_free (x ∷ t) h = (go (test x) refl, alphabetic_free t h.1)
    where
      go : (b : Bool) → test x ≡ b → b ≡ false
      go false q = refl
      go true q = absurd (h.0 (other x q))

  pub encode_free : (s : List ℕ) → Free test (encode s)
  encode_free s = alphabetic_free (encode s) (encode_alphabetic s)

-- one character that stands for nothing, as ";"
pub one_other : (c : ℕ) → sign_of c ≡ Other → (x : ℕ) → eqb x c ≡ true → sign_of x ≡ Other
one_other c h x e = rw (eqb-true x c e) h

-- two characters that stand for nothing
pub either_other : (a b : ℕ) → sign_of a ≡ Other → sign_of b ≡ Other → (x : ℕ) → (eqb x a || eqb x b) ≡ true → sign_of x ≡ Other
either_other a b h k x e = go (eqb x a) refl e
  where
    go : (t : Bool) → eqb x a ≡ t → (t || eqb x b) ≡ true → sign_of x ≡ Other
    go true q r = rw (eqb-true x a q) h
    go false q r = rw (eqb-true x b r) k

pub blank_other : (x : ℕ) → blank x ≡ true → sign_of x ≡ Other
unfolding blank sign_of
blank_other x e = either_other 32 9 refl refl x e
