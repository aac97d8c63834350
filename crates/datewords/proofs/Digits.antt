-- Runs of digits, and what `number` knows in its loop.
--     value_is, nothing_is       an answer of the code, and the number that the definition gives
--     digit-..                   one digit
--     Valued                     the loop's invariant: the number of the octets passed, then the definition of what is left
--     only_if_..                 where a definition has an answer, its tests hold
--     number_below, number_small     how large a number of so many digits is
-- Assumes nothing.
use Prim.Native.Nat.{ℕ, suc, ◌+◌, ◌-◌, ◌*◌, ◌^◌, ◌≤◌, ◌<◌}
use mathlib.Core.Path.{◌≡◌, refl, sym, ◌∙◌}
use mathlib.Core.Bool.{Bool, true, false, ◌&&◌}
use mathlib.Core.List.{List, [], ◌∷◌}
use Rattle.std.proofs.lemmas.Option.{none-some}
use Rattle.std.specs.Prelude.{Option, Some, None}
use native.Mathlib.Nat.{add-zero, zero-add, pow-le-pow_right, pow-succ'}
use native.Mathlib.Numerals.{add-one}
use native.Mathlib.Omega.{arith}
use mir.Val.{Fits}
use mir.Syntax.{w64}
use borrow.Author.Rules.{rules}
use borrow.Author.Tests.{leb-true, le-leb, lt-leb}
use lib.Dec.{leb}
use lib.ListN.{length, get_or, drop}
use Rattle.octets.proofs.Lists.{drop_one, drop_done}
use Rattle.runs.specs.Runs.{belongs}
use Rattle.runs.specs.declared.Class.TheVariants.{Digit}
use Rattle.datewords.specs.Words.{only_if, digit_of, value_from, number_of}

-- what an answer says of the definition
pub value_is : (o : Option ℕ) (r : Option ℕ) (n : ℕ) → r ≡ o → r ≡ Some n → o ≡ Some n
value_is None r n e q = cc
value_is (Some m) r n e q = cc

pub nothing_is : (o : Option ℕ) (r : Option ℕ) → r ≡ o → r ≡ None → o ≡ None
nothing_is None r e q = refl
nothing_is (Some m) r e q = cc

-- where a definition has an answer, its tests hold
pub only_if_true : (b : Bool) (o : Option ℕ) (n : ℕ) → only_if b o ≡ Some n → b ≡ true
unfolding only_if
only_if_true true o n e = refl
only_if_true false o n e = cc

pub only_if_some : (b : Bool) (o : Option ℕ) (n : ℕ) → only_if b o ≡ Some n → o ≡ Some n
unfolding only_if
only_if_some true o n e = e
only_if_some false o n e = cc

pub both_left : (a b : Bool) → a && b ≡ true → a ≡ true
both_left true b e = refl
both_left false b e = e

pub both_right : (a b : Bool) → a && b ≡ true → b ≡ true
both_right true b e = e
both_right false b e = cc

-- the digits are the octets 48 to 57
pub digit_range : (x : ℕ) → belongs Digit x ≡ true → (48 ≤ x) × (x ≤ 57)
unfolding belongs
digit_range x e = (leb-true 48 x (both_left _ _ e), leb-true x 57 (both_right (leb 48 x) _ e))

module _ (x : ℕ) (b : Bool) (e : b ≡ belongs Digit x) where
  pub digit_above : b ≡ true → 48 ≤ x
  digit_above q = omega (arith, digit_range x (sym e ∙ q))

  pub digit_is : (w : ℕ) → w ≡ x - 48 → b ≡ true → Some w ≡ digit_of x
  unfolding digit_of only_if
  digit_is w p q = rw (sym e ∙ q, p)

  pub digit_none : b ≡ false → None ≡ digit_of x
  unfolding digit_of only_if
  digit_none q = rw (sym e ∙ q)

pub ruleset one_digit = (digit_above, digit_is, digit_none, rules)

digit_small : (x d : ℕ) → digit_of x ≡ Some d → d ≤ 9
unfolding digit_of
digit_small x d e =
    let p : x - 48 ≡ d = cc (only_if_some (belongs Digit x) (Some (x - 48)) d e) in
    omega (arith, digit_range x (only_if_true (belongs Digit x) (Some (x - 48)) d e))

-- one digit more: the number stays below the next power of ten
digit_more : (n i d : ℕ) → n < 10 ^ i → d ≤ 9 → 10 * n + d < 10 ^ (i + 1)
digit_more n i d h l = rw (add-one, pow-succ') (omega arith)

four_digits : (n i : ℕ) → n < 10 ^ i → i ≤ 4 → n ≤ 9999
four_digits n i h l = let p : 10 ^ i ≤ 10 ^ 4 = pow-le-pow_right (omega arith) l in omega arith

-- the number of the first i octets of t is n
pub record Valued (t : List ℕ) (i n : ℕ) : Type 0 where
  pub upto : i ≤ length t
  pub few : length t ≤ 4
  pub room : n < 10 ^ i
  pub so_far : value_from 0 t ≡ value_from n (drop i t)

pub value_begin : (t : List ℕ) → length t ≤ 4 → Valued t 0 0
value_begin t h = record { upto = omega arith; few = h; room = omega arith; so_far = refl }

pub number_long : (t : List ℕ) → 4 < length t → None ≡ number_of t
unfolding number_of only_if
number_long t h = rw (lt-leb (length t) 4 h)

module _ (t : List ℕ) (i n : ℕ) (h : Valued t i n) where
  number_as : (o : Option ℕ) → value_from n (drop i t) ≡ o → number_of t ≡ o
  unfolding number_of only_if
  number_as o e = rw (le-leb (length t) 4 h.few) (h.so_far ∙ e)

  pub value_end : length t ≤ i → Some n ≡ number_of t
  unfolding value_from
  value_end l = rw (number_as (Some n) (rw (drop_done t i l)))

  module _ (l : i < length t) (r : Option ℕ) (e : r ≡ digit_of (get_or t i 0)) where
    pub value_stop : r ≡ None → None ≡ number_of t
    unfolding value_from
    value_stop q = rw (number_as None (rw (drop_one t i l, nothing_is (digit_of (get_or t i 0)) r e q)))

    module _ (d : ℕ) (q : r ≡ Some d) where
      small : 10 * n + d < 10 ^ (i + 1)
      small = digit_more n i d h.room (digit_small _ d (value_is _ r d e q))

      pub value_fits : Fits w64 (10 * n + d)
      value_fits = record { fits = omega (arith, four_digits (10 * n + d) (i + 1) small (omega (arith, h.few))) }

      pub value_ten : Fits w64 (10 * n)
      value_ten = record { fits = omega (arith, value_fits.fits) }

      pub value_on : Valued t (i + 1) (10 * n + d)
      unfolding value_from
      value_on = record {
        upto = omega arith;
        few = h.few;
        room = small;
        so_far = h.so_far ∙ rw (drop_one t i l, value_is (digit_of (get_or t i 0)) r d e q);
      }

pub ruleset valuing = (number_long, value_begin, value_end, value_stop, value_fits, value_ten, value_on, rules)

value_below : (t : List ℕ) (i n m : ℕ) → n < 10 ^ i → value_from n t ≡ Some m → m < 10 ^ (i + length t)
unfolding value_from
value_below [] i n m h e = let p : n ≡ m = cc in rw (add-zero, ← p) h
value_below (x ∷ t) i n m h e = go (digit_of x) refl (λ d. value_below t (i + 1) (10 * n + d) m)
  where
    go :
        (o : Option ℕ) → digit_of x ≡ o
        → ((d : ℕ) → 10 * n + d < 10 ^ (i + 1) → value_from (10 * n + d) t ≡ Some m → m < 10 ^ (i + 1 + length t))
        → m < 10 ^ (i + suc (length t))
    go None p rest = absurd (none-some m (rw p at e))
    go (Some d) p rest =
        let w : i + suc (length t) ≡ i + 1 + length t = omega arith in
        rw w (rest d (digit_more n i d h (digit_small x d p)) (rw p at e))

-- a number of so many digits
pub number_below : (t : List ℕ) (n : ℕ) → number_of t ≡ Some n → n < 10 ^ length t
unfolding number_of
number_below t n e = rw zero-add at (value_below t 0 0 n (omega arith) (only_if_some (leb (length t) 4) _ n e))

pub number_small : (t : List ℕ) (n : ℕ) → number_of t ≡ Some n → n ≤ 9999
unfolding number_of
number_small t n e =
    four_digits n (length t) (number_below t n e) (leb-true (length t) 4 (only_if_true (leb (length t) 4) (value_from 0 t) n e))
