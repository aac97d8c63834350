-- The calendar: leap years, the lengths of the months, and how many days there can be.
--     leap_.., leap_day_..    the tests of a year, and what the definition says
--     each_month              what is computed for the twelve months
--     month-..                the length of a month
--     month_length_small, year_bound, month_bound, day_bound    bounds, so that no sum wraps
-- Assumes nothing.
use Prim.Native.Nat.{ℕ, zero, suc, ◌+◌, ◌-◌, ◌*◌, ◌/◌, ◌%◌, ◌≤◌}
use mathlib.Core.Path.{◌≡◌, refl, sym, ◌∙◌}
use mathlib.Core.Bool.{Bool, true, false, cond}
use native.Mathlib.Omega.{arith}
use borrow.Author.Rules.{rules}
use borrow.Author.Tests.{eq-eqb, ne_eqb, eqb-true}
use lib.Dec.{eqb}
use lib.ListN.{get_or}
use Rattle.octets.proofs.Lists.{at_most}
use Rattle.octets.proofs.Tests.{by_test, all_below, all_below_lem}
use Rattle.calendar.specs.Calendar.{leap, leap_day, month_lengths, month_length, year_days, month_days, day_count}

module _ (year : ℕ) where
  pub leap_hundred : year % 100 ≡ 0 → eqb (year % 400) 0 ≡ leap year
  unfolding leap
  leap_hundred h = rw (leap, eq-eqb _ _ h)

  pub leap_other : (year % 100 ≡ 0 → ⊥) → eqb (year % 4) 0 ≡ leap year
  unfolding leap
  leap_other h = rw (leap, ne_eqb _ _ h)

  module _ (b : Bool) (e : b ≡ leap year) where
    pub leap_day_one : b ≡ true → 1 ≡ leap_day year
    unfolding leap_day
    leap_day_one q = rw (leap_day, sym e ∙ q)

    pub leap_day_none : b ≡ false → 0 ≡ leap_day year
    unfolding leap_day
    leap_day_none q = rw (leap_day, sym e ∙ q)

    pub leap_day_by : (P : ℕ → Type 0) → (b ≡ true → P 1) → (b ≡ false → P 0) → P (leap_day year)
    leap_day_by P t f = by_test b (λ q. rw (← leap_day_one q) (t q)) (λ q. rw (← leap_day_none q) (f q))

  leap_day_small : leap_day year ≤ 1
  leap_day_small = leap_day_by (leap year) refl (λ n. n ≤ 1) (λ q. omega arith) (λ q. omega arith)

-- two rules that agree on each of the twelve months, by computing them
pub each_month :
    (f g : ℕ → ℕ) → all_below (λ k. eqb (f (k + 1)) (g (k + 1))) 12 ≡ true → (month : ℕ) → 1 ≤ month → month ≤ 12 → f month ≡ g month
each_month f g q month h l =
    let e : month - 1 + 1 ≡ month = omega arith in
    let t : eqb (f (month - 1 + 1)) (g (month - 1 + 1)) ≡ true = all_below_lem (λ k. eqb (f (k + 1)) (g (k + 1))) 12 q (month - 1) (omega arith) in
    eqb-true (f month) (g month) (rw e at t)

month_rule :
    (month : ℕ) → 1 ≤ month → month ≤ 12 → cond (eqb month 2) 28 (30 + (month + month / 8) % 2) ≡ get_or month_lengths (month - 1) 0
month_rule = each_month _ _ refl

module _ (year month : ℕ) where
  pub month_february : (n : ℕ) → n ≡ leap_day year → month ≡ 2 → 28 + n ≡ month_length year month
  unfolding month_length
  month_february n e h = rw (month_length, eq-eqb _ _ h, e)

  pub month_other : 1 ≤ month → month ≤ 12 → (month ≡ 2 → ⊥) → 30 + (month + month / 8) % 2 ≡ month_length year month
  unfolding month_length
  month_other f l h = rw (month_length, ne_eqb _ _ h) (rw (ne_eqb month 2 h) at (month_rule month f l))

pub month_length_small : (year month : ℕ) → month_length year month ≤ 31
unfolding month_length
month_length_small year month =
    by_test (eqb month 2)
    (λ e. rw (month_length, e) (omega (arith, leap_day_small year)))
    (λ e. rw (month_length, e) (at_most 31 month_lengths (omega arith) (month - 1)))

pub ruleset calendar = (month_february, month_other, rules)

pub year_bound : (k : ℕ) → year_days k ≤ 366 * k
unfolding year_days
year_bound zero = omega arith
year_bound (suc k) = omega (arith, year_bound k, leap_day_small (1900 + k))

pub month_bound : (year k : ℕ) → month_days year k ≤ 31 * k
unfolding month_days
month_bound year zero = omega arith
month_bound year (suc k) = omega (arith, month_bound year k, month_length_small year (suc k))

pub day_bound : (year month day : ℕ) → year ≤ 9999 → month ≤ 12 → day ≤ 31 → day_count year month day ≤ 3000000
unfolding day_count
day_bound year month day hy hm hd = omega (arith, year_bound (year - 1900), month_bound year (month - 1))
