-- Whether a text stays as it is, told by each octet and the one before it.
--     ascii_stays, second_stays, first_stays    one octet, by its range
--     stays_same                                all of a text
--     Steady s all a i                          what a loop knows that goes through one; steady_begin .. steady_end are its steps
-- Assumes nothing.
use Prim.Native.Nat.{ℕ, ◌+◌, ◌<◌, ◌≤◌}
use mathlib.Core.Path.{◌≡◌, refl, sym, ◌∙◌}
use mathlib.Core.Bool.{Bool, true, false, not, ◌&&◌, ◌||◌, beq, and-true, and-false, and_assoc}
use mathlib.Core.List.{List, [], ◌∷◌}
use mathlib.Core.Logic.{⊎_elim}
use native.Mathlib.Omega.{arith}
use borrow.Author.Rules.{rules}
use borrow.Author.Tests.{eqb-true, eqb-false, eq-eqb, le-ltb, lt-leb}
use lib.Dec.{leb, ltb, eqb}
use lib.ListN.{length, get_or, drop}
use Rattle.octets.specs.Octets.{lower, same_octets}
use Rattle.octets.proofs.Lists.{lt_or_le, drop_one, drop_done}
use Rattle.octets.proofs.Tests.{by_test, same_bool, all_below_lem}
use Rattle.utf8.specs.Utf8.{between}
use Rattle.utf8.specs.Steps.{second_of, first_of, octetwise, moves, stays_behind}
use Rattle.utf8.proofs.Octetwise.{at_ascii, at_second, at_first, second_other}

ascii_stays : (a x : ℕ) → x < 0x80 → eqb (lower x) x ≡ not (moves a x)
unfolding moves lower
ascii_stays a x h = same_bool _ _ (all_below_lem (λ y. beq (eqb (lower y) y) (not (moves a y))) 0x80 refl x h)

-- a second octet, behind each of the three that have capitals, and behind any other
agree : ℕ → ℕ → Bool
agree a y = ltb y 0x80 || beq (eqb (second_of a y) y) (not (moves a y))

agrees : (a x : ℕ) → 0x80 ≤ x → agree a x ≡ true → eqb (second_of a x) x ≡ not (moves a x)
unfolding agree
agrees a x h e = same_bool _ _ (rw (le-ltb x 0x80 h) at e)

behind_c3 : (x : ℕ) → x < 0xC0 → agree 0xC3 x ≡ true
unfolding agree second_of moves
behind_c3 = all_below_lem (agree 0xC3) 0xC0 refl

behind_ce : (x : ℕ) → x < 0xC0 → agree 0xCE x ≡ true
unfolding agree second_of moves
behind_ce = all_below_lem (agree 0xCE) 0xC0 refl

behind_d0 : (x : ℕ) → x < 0xC0 → agree 0xD0 x ≡ true
unfolding agree second_of moves
behind_d0 = all_below_lem (agree 0xD0) 0xC0 refl

no_way : (p q r t : Bool) → p ≡ false → (p || (q && false) || (r && false) || (t && false)) ≡ false
no_way p q r t e = rw (e, and-false q, and-false r, and-false t)

no_capital : (x : ℕ) → 0x5A < x → between 0x41 0x5A x ≡ false
no_capital x h = rw (lt-leb x 0x5A h) (and-false (leb 0x41 x))

moves_none : (a x : ℕ) → 0x80 ≤ x → eqb a 0xC3 ≡ false → eqb a 0xCE ≡ false → eqb a 0xD0 ≡ false → moves a x ≡ false
unfolding moves
moves_none a x h c e d =
    rw (c, e, d)
    (no_way (between 0x41 0x5A x) (between 0x80 0x9E x && not (eqb x 0x97)) (between 0x91 0xAB x && not (eqb x 0xA2)) (between 0x80 0xAF x)
    (no_capital x (omega arith)))

second_stays : (a x : ℕ) → 0x80 ≤ x → x < 0xC0 → eqb (second_of a x) x ≡ not (moves a x)
second_stays a x h k =
    by_test (eqb a 0xC3) (λ e. let q : a ≡ 0xC3 = eqb-true a 0xC3 e in rw q (agrees 0xC3 x h (behind_c3 x k)))
    (λ c.
    by_test (eqb a 0xCE) (λ e. let q : a ≡ 0xCE = eqb-true a 0xCE e in rw q (agrees 0xCE x h (behind_ce x k)))
    (λ e.
    by_test (eqb a 0xD0) (λ d. let q : a ≡ 0xD0 = eqb-true a 0xD0 d in rw q (agrees 0xD0 x h (behind_d0 x k)))
    (λ d.
    rw (second_other a x (eqb-false a 0xC3 c) (eqb-false a 0xCE e) (eqb-false a 0xD0 d), moves_none a x h c e d)
    (eq-eqb x x refl))))

-- a first octet
above : (p q r t c e d : Bool) → p ≡ false → q ≡ false → r ≡ false → t ≡ false → (p || (q && c) || (r && e) || (t && d)) ≡ false
above p q r t c e d w x y z = rw (w, x, y, z)

first_moves : (a x : ℕ) → 0xC0 ≤ x → moves a x ≡ false
unfolding moves
first_moves a x h =
    above (between 0x41 0x5A x) (between 0x80 0x9E x && not (eqb x 0x97)) (between 0x91 0xAB x && not (eqb x 0xA2)) (between 0x80 0xAF x)
    (eqb a 0xC3) (eqb a 0xCE) (eqb a 0xD0)
    (no_capital x (omega arith))
    (rw (lt-leb x 0x9E (omega arith), and-false (leb 0x80 x)))
    (rw (lt-leb x 0xAB (omega arith), and-false (leb 0x91 x)))
    (rw (lt-leb x 0xAF (omega arith)) (and-false (leb 0x80 x)))

-- it becomes another only where the octet behind it does
follow : ℕ → ℕ → Bool
follow x y = moves x y || eqb (first_of x y) x

follows_ce : (y : ℕ) → y < 256 → follow 0xCE y ≡ true
unfolding follow first_of moves
follows_ce = all_below_lem (follow 0xCE) 256 refl

follows_d0 : (y : ℕ) → y < 256 → follow 0xD0 y ≡ true
unfolding follow first_of moves
follows_d0 = all_below_lem (follow 0xD0) 256 refl

beyond : (low high y : ℕ) → high < y → between low high y ≡ false
beyond low high y h = rw (lt-leb y high h) (and-false (leb low y))

first_far : (x y : ℕ) → 0xC0 ≤ y → first_of x y ≡ x
unfolding first_of
first_far x y h =
    rw (
      beyond 0xA0 0xAB y (omega arith),
      beyond 0x80 0x8F y (omega arith),
      beyond 0xA0 0xAF y (omega arith),
      and-false (eqb x 0xCE),
      and-false (eqb x 0xD0),
    )

first_none : (x y : ℕ) → eqb x 0xCE ≡ false → eqb x 0xD0 ≡ false → first_of x y ≡ x
unfolding first_of
first_none x y c d = rw (c, d)

first_stays : (x y : ℕ) → moves x y ≡ false → first_of x y ≡ x
unfolding follow
first_stays x y m =
    ⊎_elim
    (λ (l : y < 0xC0).
    by_test (eqb x 0xCE)
    (λ e. let q : x ≡ 0xCE = eqb-true x 0xCE e in eqb-true (first_of x y) x (rw q (told 0xCE (rw q at m) (follows_ce y (omega arith)))))
    (λ c.
    by_test (eqb x 0xD0)
    (λ e. let q : x ≡ 0xD0 = eqb-true x 0xD0 e in eqb-true (first_of x y) x (rw q (told 0xD0 (rw q at m) (follows_d0 y (omega arith)))))
    (λ d. first_none x y c d)))
    (λ (l : 0xC0 ≤ y). first_far x y l)
    (lt_or_le y 0xC0)
  where
    told : (z : ℕ) → moves z y ≡ false → follow z y ≡ true → eqb (first_of z y) z ≡ true
    told z f e = rw f at e

zero_stays : (x : ℕ) → moves x 0 ≡ false
unfolding moves
zero_stays x = refl

-- all of a text
pub stays_same : (a : ℕ) (s : List ℕ) → stays_behind a s ≡ same_octets (octetwise a s) s
unfolding stays_behind octetwise same_octets
stays_same a [] = refl
stays_same a (x ∷ s) =
    ⊎_elim
    (λ (h : x < 0x80). rw (at_ascii a x (get_or s 0 0) h, ascii_stays a x h, ← stays_same x s))
    (λ (h : 0x80 ≤ x).
    ⊎_elim
    (λ (k : x < 0xC0). rw (at_second a x (get_or s 0 0) h k, second_stays a x h k, ← stays_same x s))
    (λ (k : 0xC0 ≤ x). rw (at_first a x (get_or s 0 0) k, first_moves a x k, ← stays_same x s) (leading s))
    (lt_or_le x 0xC0))
    (lt_or_le x 0x80)
  where
    -- where the first octet became another, so would the one behind it
    leading : (t : List ℕ) → stays_behind x t ≡ (eqb (first_of x (get_or t 0 0)) x && stays_behind x t)
    leading [] = rw (first_stays x 0 (zero_stays x), eq-eqb x x refl)
    leading (y ∷ t) =
        by_test (moves x y) (λ m. rw m (sym (and-false (eqb (first_of x y) x)))) (λ m. rw (first_stays x y m, eq-eqb x x refl))

pub record Steady (s : List ℕ) (all : Bool) (a i : ℕ) : Type 0 where
  pub so_far : stays_behind 0 s ≡ (all && stays_behind a (drop i s))

module _ (s : List ℕ) where
  pub steady_begin : Steady s true 0 0
  steady_begin = record { so_far = refl }

  module _ (all : Bool) (a i : ℕ) (h : Steady s all a i) where
    pub steady_next : (b : Bool) → i < length s → b ≡ moves a (get_or s i 0) → Steady s (all && not b) (get_or s i 0) (i + 1)
    unfolding stays_behind
    steady_next b l e = record { so_far = h.so_far ∙ rw (drop_one s i l, e) (sym (and_assoc all _ _)) }

    pub steady_end : length s ≤ i → all ≡ same_octets (octetwise 0 s) s
    unfolding stays_behind
    steady_end l = sym (h.so_far ∙ rw (drop_done s i l) (and-true all)) ∙ stays_same 0 s

pub ruleset staying = (steady_begin, steady_next, steady_end, rules)
