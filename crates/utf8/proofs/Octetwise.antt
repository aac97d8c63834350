-- Lower case octet by octet is that by code points.
--     at_ascii .. at_first    an octet, by its range
--     octetwise_form          the octets of code points
--     octetwise_ascii         a text in ASCII
--     steady_small            a text that stays as it is, ill-formed or not, has no ASCII capital
-- Assumes nothing.
use Prim.Native.Nat.{ℕ, ◌+◌, ◌/◌, ◌%◌, ◌<◌, ◌≤◌}
use mathlib.Core.Path.{◌≡◌, refl, sym, ◌∙◌}
use mathlib.Core.Bool.{Bool, true, ◌||◌}
use mathlib.Core.List.{List, [], ◌∷◌, ◌++◌}
use mathlib.Core.Logic.{◌⊎◌, inl, inr, ⊎_elim}
use native.Mathlib.Omega.{arith}
use borrow.Author.Tests.{ltb-true, eqb-true, lt-ltb, le-ltb, ne_eqb, eq-eqb}
use lib.Dec.{ltb, eqb}
use lib.ListN.{get_or}
use Rattle.octets.specs.Octets.{lower, lowered, same_octets}
use Rattle.octets.specs.Tests.{every}
use Rattle.octets.proofs.Lists.{lt_or_le}
use Rattle.octets.proofs.Tests.{and_left, and_right, all_below_lem}
use Rattle.octets.proofs.Letters.{lower_above}
use Rattle.octets.proofs.Comparing.{same_true}
use Rattle.utf8.specs.Utf8.{encoded_one, encoded, scalar, scalars}
use Rattle.utf8.specs.Lowering.{lower_point, lower_points}
use Rattle.utf8.specs.Steps.{all_ascii, second_of, first_of, lower_at, octetwise}
use Rattle.utf8.proofs.Mapping.{point_high}

module _ (a x b : ℕ) where
  pub at_ascii : x < 0x80 → lower_at a x b ≡ lower x
  unfolding lower_at
  at_ascii h = rw (lt-ltb x 0x80 h)

  pub at_second : 0x80 ≤ x → x < 0xC0 → lower_at a x b ≡ second_of a x
  unfolding lower_at
  at_second h k = rw (le-ltb x 0x80 h, lt-ltb x 0xC0 k)

  pub at_first : 0xC0 ≤ x → lower_at a x b ≡ first_of x b
  unfolding lower_at
  at_first h = rw (le-ltb x 0x80 (omega arith), le-ltb x 0xC0 h)

-- the octets of a code point from U+0800 on stay as they are
first_other : (x b : ℕ) → 0xD1 ≤ x → first_of x b ≡ x
unfolding first_of
first_other x b h = rw (ne_eqb x 0xCE (omega arith), ne_eqb x 0xD0 (omega arith))

pub second_other : (a x : ℕ) → (a ≡ 0xC3 → ⊥) → (a ≡ 0xCE → ⊥) → (a ≡ 0xD0 → ⊥) → second_of a x ≡ x
unfolding second_of
second_other a x h i j = rw (ne_eqb a 0xC3 h, ne_eqb a 0xCE i, ne_eqb a 0xD0 j)

far_first : (a x b : ℕ) → 0xE0 ≤ x → lower_at a x b ≡ x
far_first a x b h = at_first a x b (omega arith) ∙ first_other x b (omega arith)

far_second : (a x b : ℕ) → 0x80 ≤ x → x < 0xC0 → (a < 0xC0) ⊎ (0xE0 ≤ a) → lower_at a x b ≡ x
far_second a x b h k w =
    at_second a x b h k
    ∙ ⊎_elim
    (λ (l : a < 0xC0). second_other a x (omega arith) (omega arith) (omega arith))
    (λ (l : 0xE0 ≤ a). second_other a x (omega arith) (omega arith) (omega arith))
    w

-- below it they are computed: the two octets of each, and the one octet of ASCII
abbrev pair : ℕ → List ℕ
pair p = first_of (0xC0 + p / 64) (0x80 + p % 64) ∷ second_of (0xC0 + p / 64) (0x80 + p % 64) ∷ []

pair_right : ℕ → Bool
pair_right p = ltb p 0x80 || same_octets (pair p) (encoded_one (lower_point p))

pairs_right : (p : ℕ) → p < 0x800 → pair_right p ≡ true
unfolding pair_right first_of second_of encoded_one lower_point same_octets
pairs_right = all_below_lem pair_right 0x800 refl

two_right : (p : ℕ) → 0x80 ≤ p → p < 0x800 → pair p ≡ encoded_one (lower_point p)
unfolding pair_right
two_right p h k = same_true _ _ (rw (pair_right, le-ltb p 0x80 h) at (pairs_right p k))

one_right : (p : ℕ) → p < 0x80 → encoded_one (lower_point p) ≡ lower p ∷ []
unfolding encoded_one lower_point lower same_octets
one_right p h = same_true _ _ (all_below_lem (λ p. same_octets (encoded_one (lower_point p)) (lower p ∷ [])) 0x80 refl p h)

-- one code point in front of a text whose lower case is known behind any octet that can end one
module _ (p : ℕ) (s t : List ℕ) (later : (a : ℕ) → a < 0xC0 → octetwise a s ≡ t) (a : ℕ) (low : a < 0xC0) where
  long : 0x800 ≤ p → octetwise a (encoded_one p ++ s) ≡ encoded_one p ++ t
  unfolding octetwise encoded_one
  long k =
      ⊎_elim
      (λ (m : p < 0x10000).
      rw (
        le-ltb p 0x80 (omega arith),
        le-ltb p 0x800 k,
        lt-ltb p 0x10000 m,
        far_first a (0xE0 + p / 4096) (0x80 + p / 64 % 64) (omega arith),
        far_second (0xE0 + p / 4096) (0x80 + p / 64 % 64) (0x80 + p % 64) (omega arith) (omega arith) (inr (omega arith)),
        far_second (0x80 + p / 64 % 64) (0x80 + p % 64) (get_or s 0 0) (omega arith) (omega arith) (inl (omega arith)),
        later (0x80 + p % 64) (omega arith),
      ))
      (λ (m : 0x10000 ≤ p).
      rw (
        le-ltb p 0x80 (omega arith),
        le-ltb p 0x800 k,
        le-ltb p 0x10000 m,
        far_first a (0xF0 + p / 262144) (0x80 + p / 4096 % 64) (omega arith),
        far_second (0xF0 + p / 262144) (0x80 + p / 4096 % 64) (0x80 + p / 64 % 64) (omega arith) (omega arith) (inr (omega arith)),
        far_second (0x80 + p / 4096 % 64) (0x80 + p / 64 % 64) (0x80 + p % 64) (omega arith) (omega arith) (inl (omega arith)),
        far_second (0x80 + p / 64 % 64) (0x80 + p % 64) (get_or s 0 0) (omega arith) (omega arith) (inl (omega arith)),
        later (0x80 + p % 64) (omega arith),
      ))
      (lt_or_le p 0x10000)

  octetwise_one : octetwise a (encoded_one p ++ s) ≡ encoded_one (lower_point p) ++ t
  unfolding octetwise encoded_one
  octetwise_one =
      ⊎_elim
      (λ (h : p < 0x80).
      rw (one_right p h, lt-ltb p 0x80 h, octetwise, at_ascii a p (get_or s 0 0) h, later p (omega arith)))
      (λ (h : 0x80 ≤ p).
      ⊎_elim
      (λ (k : p < 0x800).
      rw (
        ← two_right p h k,
        le-ltb p 0x80 h,
        lt-ltb p 0x800 k,
        octetwise,
        octetwise,
        at_first a (0xC0 + p / 64) (0x80 + p % 64) (omega arith),
        at_second (0xC0 + p / 64) (0x80 + p % 64) (get_or s 0 0) (omega arith) (omega arith),
        later (0x80 + p % 64) (omega arith),
      ))
      (λ (k : 0x800 ≤ p). rw (point_high p k) (long k))
      (lt_or_le p 0x800))
      (lt_or_le p 0x80)

pub octetwise_form : (ps : List ℕ) → scalars ps ≡ true → (a : ℕ) → a < 0xC0 → octetwise a (encoded ps) ≡ encoded (lower_points ps)
unfolding octetwise encoded lower_points scalars every
octetwise_form [] v a l = refl
octetwise_form (p ∷ ps) v a l =
    octetwise_one p (encoded ps) (encoded (lower_points ps)) (λ b k. octetwise_form ps (and_right (scalar p) (scalars ps) v) b k) a l

pub octetwise_ascii : (a : ℕ) (s : List ℕ) → all_ascii s ≡ true → octetwise a s ≡ lowered s
unfolding octetwise lowered every
octetwise_ascii a [] e = refl
octetwise_ascii a (x ∷ s) e =
    rw (
      at_ascii a x (get_or s 0 0) (ltb-true x 0x80 (and_left (ltb x 0x80) (all_ascii s) e)),
      octetwise_ascii x s (and_right (ltb x 0x80) (all_ascii s) e),
    )

at_steady : (a x b : ℕ) → lower_at a x b ≡ x → lower x ≡ x
at_steady a x b e =
    ⊎_elim
    (λ (h : x < 0x80). sym (at_ascii a x b h) ∙ e)
    (λ (h : 0x80 ≤ x). sym (lower_above x (omega arith)))
    (lt_or_le x 0x80)

pub steady_small : (a : ℕ) (s : List ℕ) → same_octets (octetwise a s) s ≡ true → same_octets (lowered s) s ≡ true
unfolding octetwise lowered same_octets
steady_small a [] e = refl
steady_small a (x ∷ s) e =
    let k : lower x ≡ x = at_steady a x (get_or s 0 0) (eqb-true _ _ (and_left (eqb (lower_at a x (get_or s 0 0)) x) _ e)) in
    rw (eq-eqb (lower x) x k) (steady_small x s (and_right (eqb (lower_at a x (get_or s 0 0)) x) _ e))
