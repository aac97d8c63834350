-- How large the number is that a token means, by the place of a date where it stands.
--     two_most, month_some, year_some, west_some     by the place
-- Assumes nothing.
use Prim.Native.Nat.{ℕ, ◌+◌, ◌*◌, ◌/◌, ◌%◌, ◌^◌, ◌≤◌, ◌<◌}
use mathlib.Core.Path.{◌≡◌, refl}
use mathlib.Core.Bool.{Bool, true, false, ◌&&◌}
use mathlib.Core.List.{List}
use Rattle.std.proofs.lemmas.Option.{none-some, option_and_then_some}
use Rattle.std.specs.Prelude.{Option, Some, None}
use native.Mathlib.Omega.{arith}
use borrow.Author.Tests.{leb-true, eqb-true, eq-eqb}
use lib.Dec.{leb, eqb}
use lib.ListN.{length, drop}
use Rattle.octets.proofs.Lists.{at_most}
use Rattle.datewords.specs.Words.{
  only_if,
  number_of,
  month_names,
  zone_names,
  zone_hours,
  place_in,
  month_of,
  year_by,
  year_of,
  two_digits,
  offset_by,
  offset_of,
  hours_west,
  west_by,
}
use Rattle.datewords.specs.declared.token.Opening.{Opening}
use Rattle.datewords.specs.declared.token.Opening.TheVariants.{Number, Word, Plus, Minus, Mark}
use Rattle.datewords.proofs.Digits.{only_if_true, only_if_some, both_right, number_below, number_small}
use Rattle.datewords.proofs.Naming.{place_below}

pub two_most : (most : ℕ) (t : List ℕ) (n : ℕ) → two_digits most t ≡ Some n → n ≤ most
unfolding two_digits
two_most most t n e =
    option_and_then_some (λ m. only_if (leb m most) (Some m)) (number_of t) n (only_if_some (eqb (length t) 2) _ n e)
    (λ m p q.
    let w : m ≡ n = cc (only_if_some (leb m most) (Some m) n q) in
    omega (arith, leb-true m most (only_if_true (leb m most) (Some m) n q)))

pub month_some : (t : List ℕ) (n : ℕ) → month_of t ≡ Some n → (1 ≤ n) × (n ≤ 12)
unfolding month_of
month_some t n e =
    option_and_then_some (λ k. Some (k + 1)) (place_in t month_names) n e
    (λ k p q. let w : k + 1 ≡ n = cc in omega (arith, place_below t month_names 0 k p))

year_by_lem : (width m n : ℕ) → m < 10 ^ width → m ≤ 9999 → year_by width m ≡ Some n → (1900 ≤ n) × (n ≤ 9999)
unfolding year_by
year_by_lem width m n h l e = two (eqb width 2) refl
  where
    new : (b : Bool) → leb m 49 ≡ b → width ≡ 2 → (1900 ≤ n) × (n ≤ 9999)
    new true p w = let q : m + 2000 ≡ n = cc (rw (year_by, eq-eqb width 2 w, p) at e) in omega (arith, leb-true m 49 p)
    new false p w =
        let q : m + 1900 ≡ n = cc (rw (year_by, eq-eqb width 2 w, p) at e) in
        let k : m < 10 ^ 2 = rw w at h in
        omega arith

    three : (b : Bool) → eqb width 3 ≡ b → eqb width 2 ≡ false → (1900 ≤ n) × (n ≤ 9999)
    three true p w =
        let q : m + 1900 ≡ n = cc (rw (year_by, w, p) at e) in
        let k : m < 10 ^ 3 = rw (eqb-true width 3 p) at h in
        omega arith
    three false p w =
        let o : only_if (eqb width 4 && leb 1900 m) (Some m) ≡ Some n = rw (year_by, w, p) at e in
        let q : m ≡ n = cc (only_if_some (eqb width 4 && leb 1900 m) (Some m) n o) in
        omega (arith, leb-true 1900 m (both_right (eqb width 4) (leb 1900 m) (only_if_true _ (Some m) n o)))

    two : (b : Bool) → eqb width 2 ≡ b → (1900 ≤ n) × (n ≤ 9999)
    two true p = new (leb m 49) refl (eqb-true width 2 p)
    two false p = three (eqb width 3) refl p

pub year_some : (t : List ℕ) (n : ℕ) → year_of t ≡ Some n → (1900 ≤ n) × (n ≤ 9999)
unfolding year_of
year_some t n e =
    option_and_then_some (λ m. year_by (length t) m) (number_of t) n e
    (λ m p q. year_by_lem (length t) m n (number_below t m p) (number_small t m p) q)

-- no zone is 100 hours away
offset_some : (t : List ℕ) (n : ℕ) → offset_of t ≡ Some n → n ≤ 360_000
unfolding offset_of offset_by
offset_some t n e =
    option_and_then_some (λ m. offset_by m) (number_of t) n (only_if_some (eqb (length t) 4) _ n e)
    (λ m p q.
    let w : 3600 * (m / 100) + 60 * (m % 100) ≡ n = cc (only_if_some (leb (m % 100) 59) _ n q) in
    omega (arith, number_small t m p, leb-true (m % 100) 59 (only_if_true (leb (m % 100) 59) _ n q)))

hours_most : (t : List ℕ) → hours_west t ≤ 8
unfolding hours_west
hours_most t = go (place_in t zone_names) refl
  where
    go : (o : Option ℕ) → place_in t zone_names ≡ o → hours_west t ≤ 8
    go None p = rw (hours_west, p) (omega arith)
    go (Some k) p = rw (hours_west, p) (at_most 8 zone_hours (omega arith) k)

pub west_some : (k : Opening) (t : List ℕ) (n : ℕ) → west_by k t ≡ Some n → n ≤ 360_000
unfolding west_by
west_some Number t n e = absurd (none-some n e)
west_some Word t n e = let q : 3600 * hours_west t ≡ n = cc in omega (arith, hours_most t)
west_some Plus t n e = absurd (none-some n e)
west_some Minus t n e = offset_some (drop 1 t) n e
west_some Mark t n e = absurd (none-some n e)
