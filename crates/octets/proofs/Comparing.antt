-- Equal octets: the tests of texts and names, and what a loop that compares octet by octet knows.
--     same_true, same_refl    the test says yes exactly to equal lists
--     Same s t i              the lists are of one length, and the test comes to what is left from i on
--     same_begin .. same_end  the loop's steps
--     same_long               lists of two lengths are not equal
--     same_differs            an octet that differs settles it
--     same_is, opens_from, name_is    the tests by the words that the library has for its own
--     name_long, opens_long   where the lengths alone decide

-- Assumes nothing.
use Prim.Native.Nat.{ℕ, suc, ◌+◌, ◌-◌, ◌<◌, ◌≤◌, min, zero-le, suc-le-suc}
use mathlib.Core.Path.{◌≡◌, refl, sym, ap, ◌∙◌}
use mathlib.Core.Bool.{Bool, true, false, ◌&&◌, false≢true}
use mathlib.Core.List.{List, [], ◌∷◌, map}
use Rattle.std.specs.Prelude.{◌↔◌, IsTrue}
use Rattle.std.specs.Char.{to_ascii_lowercase}
use Rattle.std.specs.Cmp.Lexicographic.{pointwise}
use Rattle.std.specs.List.{starts_with as begins_with}
use native.Mathlib.Omega.{arith}
use borrow.Author.Tests.{eq-eqb, ne_eqb, eqb-true, leb-true, leb-false}
use borrow.Author.Rules.{rules}
use lib.Dec.{eqb, leb}
use lib.ListN.{length, get_or, take, drop, length-drop}
use Rattle.std.proofs.lemmas.List.{take_rest}
use Rattle.octets.specs.Octets.{same_octets, starts_with, same_name, lowered}
use Rattle.octets.proofs.Lists.{drop_one, drop_done}
use Rattle.octets.proofs.Tests.{by_test}
use Rattle.octets.proofs.Letters.{lowered_is, length_lowered}

pub same_refl : (s : List ℕ) → same_octets s s ≡ true
unfolding same_octets
same_refl [] = refl
same_refl (x ∷ s) = rw (eq-eqb x x refl) (same_refl s)

pub same_true : (s t : List ℕ) → same_octets s t ≡ true → s ≡ t
unfolding same_octets
same_true [] [] e = refl
same_true [] (y ∷ t) e = absurd (false≢true e)
same_true (x ∷ s) [] e = absurd (false≢true e)
same_true (x ∷ s) (y ∷ t) e = go (λ q. same_true s t q) (eqb x y) refl
  where
    go : (same_octets s t ≡ true → s ≡ t) → (b : Bool) → eqb x y ≡ b → x ∷ s ≡ y ∷ t
    go tails true p = let q : same_octets s t ≡ true = rw p at e in cc (eqb-true x y p, tails q)
    go tails false p = absurd (false≢true (rw p at e))

pub record Same (s t : List ℕ) (i : ℕ) : Type 0 where
  pub long : length s ≡ length t
  pub upto : i ≤ length s
  pub so_far : same_octets s t ≡ same_octets (drop i s) (drop i t)

-- two lists at a place where both go on
goes_on : (s t : List ℕ) (i : ℕ) → i < length s → i < length t
    → same_octets (drop i s) (drop i t) ≡ (eqb (get_or s i 0) (get_or t i 0) && same_octets (drop (i + 1) s) (drop (i + 1) t))
unfolding same_octets
goes_on s t i h k = rw (drop_one s i h, drop_one t i k)

pub same_long : (s t : List ℕ) → (length s ≡ length t → ⊥) → false ≡ same_octets s t
same_long s t h = go (same_octets s t) refl
  where
    go : (b : Bool) → same_octets s t ≡ b → false ≡ b
    go true e = absurd (h (ap length (same_true s t e)))
    go false e = refl

pub same_begin : (s t : List ℕ) → length s ≡ length t → Same s t 0
same_begin s t e = record { long = e; upto = omega arith; so_far = refl }

module _ (s t : List ℕ) (i : ℕ) (h : Same s t i) where
  pub same_within : i < length s → i < length t
  same_within l = omega arith

  pub same_next : i < length s → get_or s i 0 ≡ get_or t i 0 → Same s t (i + 1)
  same_next l e =
      record {
        long = h.long;
        upto = omega arith;
        so_far = h.so_far ∙ goes_on s t i l (omega arith) ∙ rw (eq-eqb (get_or s i 0) (get_or t i 0) e);
      }

  pub same_stop : i < length s → (get_or s i 0 ≡ get_or t i 0 → ⊥) → false ≡ same_octets s t
  same_stop l n = sym (h.so_far ∙ goes_on s t i l (omega arith) ∙ rw (ne_eqb (get_or s i 0) (get_or t i 0) n))

  pub same_end : length s ≤ i → true ≡ same_octets s t
  unfolding same_octets
  same_end l = sym (h.so_far ∙ rw (drop_done s i l, drop_done t i (omega arith)))

pub ruleset comparing = (same_long, same_begin, same_within, same_next, same_stop, same_end, rules)

-- the library's words for these tests
pub same_is : (s t : List ℕ) → pointwise eqb s t ≡ same_octets s t
unfolding same_octets
same_is [] [] = refl
same_is [] (y ∷ t) = refl
same_is (x ∷ s) [] = refl
same_is (x ∷ s) (y ∷ t) = rw (same_is s t)

-- where two octets of one place differ, the lists do
pub same_differs : (s t : List ℕ) (i : ℕ) → i < length s → (get_or s i 0 ≡ get_or t i 0 → ⊥) → false ≡ same_octets s t
same_differs s t i l n =
    by_test (same_octets s t) (λ e. absurd (n (ap (λ v. get_or v i 0) (same_true s t e)))) (λ e. sym e)

pub ruleset differing = (same_differs, rules)

pub ruleset near = (same_is, same_long, rules)

opens_is : (t s : List ℕ) → pointwise eqb t (take (length t) s) ≡ starts_with t s
unfolding starts_with
opens_is [] s = refl
opens_is (x ∷ t) [] = refl
opens_is (x ∷ t) (y ∷ s) = rw (opens_is t s)

-- n is the place `at`, or the end where that comes first
pub opens_from : (t s : List ℕ) (at n : ℕ) → n ≡ min at (length s) → begins_with eqb (take (length s - n) (drop n s)) t ≡ starts_with t (drop at s)
opens_from t s at n e =
    rw take_rest (opens_is t (drop n s))
    ∙ by_test (leb at (length s))
    (λ l. let q : n ≡ at = omega (arith, leb-true at (length s) l) in rw q)
    (λ l.
    let m : length s < at = leb-false at (length s) l in
    ap (starts_with t) (drop_done s n (omega arith) ∙ sym (drop_done s at (omega arith))))

-- a test that says yes just where two names are equal, in the library's lower case
pub name_is : (s t : List ℕ) (r : Bool) → IsTrue r ↔ (map to_ascii_lowercase s ≡ map to_ascii_lowercase t) → r ≡ same_name s t
unfolding same_name
name_is s t r h =
    by_test (same_octets (lowered s) (lowered t))
    (λ e. h.1 (lowered_is s ∙ same_true (lowered s) (lowered t) e ∙ sym (lowered_is t)) ∙ sym e)
    (λ e. by_test r (λ p. absurd (false≢true (sym e ∙ rw (sym (lowered_is s) ∙ h.0 p ∙ lowered_is t) (same_refl (lowered t))))) (λ p. p ∙ sym e))

pub name_long : (s t : List ℕ) → (length s ≡ length t → ⊥) → false ≡ same_name s t
unfolding same_name
name_long s t n = same_long (lowered s) (lowered t) (λ e. n (sym (length_lowered s) ∙ e ∙ length_lowered t))

-- a text that opens a list is no longer than the list
opens_short : (s t : List ℕ) → starts_with s t ≡ true → length s ≤ length t
unfolding starts_with
opens_short [] t e = zero-le
opens_short (x ∷ s) [] e = absurd (false≢true e)
opens_short (x ∷ s) (y ∷ t) e = go (λ q. opens_short s t q) (eqb x y) refl
  where
    go : (starts_with s t ≡ true → length s ≤ length t) → (b : Bool) → eqb x y ≡ b → suc (length s) ≤ suc (length t)
    go tails true p = suc-le-suc (tails (rw p at e))
    go tails false p = absurd (false≢true (rw p at e))

-- in a list s from the place `at` on, as code has it
pub opens_long : (s t : List ℕ) (at : ℕ) → length s - at < length t → false ≡ starts_with t (drop at s)
opens_long s t at l = go (starts_with t (drop at s)) refl
  where
    go : (b : Bool) → starts_with t (drop at s) ≡ b → false ≡ b
    go true e = absurd (let k : length t ≤ length (drop at s) = opens_short t (drop at s) e in omega (arith, length-drop at s))
    go false e = refl
