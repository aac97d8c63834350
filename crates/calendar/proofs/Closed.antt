-- Days counted in cycles of 400 years, with years that begin in March: the same as by the walk of the definition.
--     leaps_more, walked            the leap days up to a year, by its quotients, and the walk over the years
--     years_closed, months_closed   the days before a March year, and in it before a month
--     march-..                      the year in which a month lies
--     counted                       the code's sum is the count; enough, years_fit, days_fit: no step of it wraps
--     closed_count                  the whole count in one equation, for all years from 1900 on
-- Assumes nothing.
use Prim.Native.Nat.{ℕ, zero, suc, ◌+◌, ◌-◌, ◌*◌, ◌/◌, ◌%◌, ◌≤◌}
use mathlib.Core.Path.{◌≡◌, refl, sym}
use mathlib.Core.Bool.{cond}
use native.Mathlib.Omega.{arith}
use mir.Val.{Fits}
use mir.Syntax.{w64}
use borrow.Author.Rules.{rules}
use borrow.Author.Tests.{ne_eqb, eqb-true, eqb-false, leb-true, leb-false}
use lib.Dec.{eqb, leb}
use Rattle.octets.proofs.Tests.{by_test}
use Rattle.calendar.specs.Calendar.{leap, leap_day, month_length, year_days, month_days, day_count}
use Rattle.calendar.proofs.Counting.{leap_hundred, leap_other, leap_day_by, each_month, year_bound, month_bound}

-- the leap days from the year 1 to a year
unfoldable leaps : ℕ → ℕ
leaps year = year / 4 - year / 100 + year / 400

module _ (year : ℕ) where
  leaps_hundred : (year + 1) % 100 ≡ 0 → leaps (year + 1) ≡ leaps year + leap_day (year + 1)
  unfolding leaps
  leaps_hundred h =
      let a : (year + 1) / 4 ≡ year / 4 + 1 = omega arith in
      let b : (year + 1) / 100 ≡ year / 100 + 1 = omega arith in
      rw (leaps, a, b) (leap_day_by (year + 1) _ (leap_hundred (year + 1) h)
      (λ n. year / 4 + 1 - (year / 100 + 1) + (year + 1) / 400 ≡ leaps year + n)
      (λ q. omega (arith, eqb-true)) (λ q. omega (arith, eqb-false)))

  leaps_other : ((year + 1) % 100 ≡ 0 → ⊥) → leaps (year + 1) ≡ leaps year + leap_day (year + 1)
  unfolding leaps
  leaps_other h =
      let a : (year + 1) / 100 ≡ year / 100 = omega arith in
      let b : (year + 1) / 400 ≡ year / 400 = omega arith in
      rw (leaps, a, b) (leap_day_by (year + 1) _ (leap_other (year + 1) h)
      (λ n. (year + 1) / 4 - year / 100 + year / 400 ≡ leaps year + n)
      (λ q. omega (arith, eqb-true)) (λ q. omega (arith, eqb-false)))

  leaps_more : leaps (year + 1) ≡ leaps year + leap_day (year + 1)
  leaps_more = by_test (eqb ((year + 1) % 100) 0) (λ e. leaps_hundred (eqb-true _ _ e)) (λ e. leaps_other (eqb-false _ _ e))

-- from 1 March of the year 0 to that of the year 1899 + k, and 306 days on to 1 January of the next one
walked : (k : ℕ) → 365 * (1899 + k) + leaps (1899 + k) + 306 ≡ 693901 + year_days k
unfolding year_days
walked zero = unfold leaps in refl
walked (suc k) =
    let e : 1899 + suc k ≡ 1899 + k + 1 = omega arith in
    let f : 1900 + k ≡ 1899 + k + 1 = omega arith in
    rw (e, year_days, f) (omega (arith, walked k, leaps_more (1899 + k)))

pub years_closed :
    (year : ℕ) → 1899 ≤ year
    → 146097 * (year / 400) + 365 * (year % 400) + year % 400 / 4 - year % 400 / 100 + 306 ≡ 693901 + year_days (year - 1899)
unfolding leaps
years_closed year h =
    let e : 1899 + (year - 1899) ≡ year = omega arith in
    let a : year / 4 ≡ 100 * (year / 400) + year % 400 / 4 = omega arith in
    let b : year / 100 ≡ 4 * (year / 400) + year % 400 / 100 = omega arith in
    omega (arith, rw (e, leaps, a, b) at (walked (year - 1899)))

-- computed for the March year 1900, which ends in 1901 and has no leap day
pub months_closed :
    (month : ℕ) → 1 ≤ month → month ≤ 12
    → 59 + (153 * ((month + 9) % 12) + 2) / 5 ≡ day_count (cond (leb month 2) 1901 1900) month 1
unfolding leap leap_day month_length year_days month_days day_count
months_closed = each_month _ _ refl

-- the months before February are the same in all years; behind it a leap year has a day more than 1900
to_february : (year k : ℕ) → k ≤ 1 → month_days year k ≡ month_days 1901 k
unfolding leap leap_day month_length month_days
to_february year zero h = refl
to_february year (suc zero) h = refl
to_february year (suc (suc k)) h = absurd (omega arith)

behind_february : (year k : ℕ) → month_days year (suc (suc k)) ≡ month_days 1900 (suc (suc k)) + leap_day year
unfolding leap leap_day month_length month_days
behind_february year zero = omega arith
behind_february year (suc k) =
    rw (month_length, ne_eqb (suc (suc (suc k))) 2 (omega arith)) (omega (arith, behind_february year k))

module _ (year month : ℕ) where
  module _ (y : ℕ) (e : y ≡ cond (leb month 2) (year - 1) year) where
    march_near : (year - 1 ≤ y) × (y ≤ year)
    march_near = by_test (leb month 2) (λ q. omega (arith, rw q at e)) (λ q. omega (arith, rw q at e))

    pub march_first : 1900 ≤ year → 1899 ≤ y
    march_first h = omega (arith, march_near)

    pub march_last : year ≤ 9999 → y ≤ 9999
    march_last h = omega (arith, march_near)

    -- the days n before the March year, and c in it before the month
    module _ (n c : ℕ) (h : 1900 ≤ year) (f : 1 ≤ month) (l : month ≤ 12) (p : n + 306 ≡ 693901 + year_days (y - 1899))
        (q : 59 + c ≡ day_count (cond (leb month 2) 1901 1900) month 1) where
      joined : n + c ≡ 693901 + (year_days (year - 1900) + month_days year (month - 1))
      unfolding leap leap_day year_days day_count
      joined =
          by_test (leb month 2)
          (λ t.
          let z : y - 1899 ≡ year - 1900 = omega (arith, rw t at e) in
          omega (arith, rw z at p, rw t at q, to_february year (month - 1) (omega (arith, leb-true))))
          (λ t.
          let z : y - 1899 ≡ suc (year - 1900) = omega (arith, rw t at e) in
          let w : 1900 + (year - 1900) ≡ year = omega arith in
          let m : month - 1 ≡ suc (suc (month - 3)) = omega (arith, leb-false) in
          rw m (omega (arith, rw (z, w) at p, rw (t, m) at q, behind_february year (month - 3))))

      pub counted : (day : ℕ) → n + c + (day - 1) - 693901 ≡ day_count year month day
      unfolding day_count
      counted day = omega (arith, joined)

      -- whatever number k the code takes away: a smaller one does not wrap, but the count is then another
      pub enough : (day k : ℕ) → k ≤ 693901 → k ≤ n + c + (day - 1)
      enough day k b = omega (arith, joined)

      module _ (last : year ≤ 9999) where
        small : n + c ≤ 4000000
        small = omega (arith, joined, year_bound (year - 1900), month_bound year (month - 1))

        pub years_fit : Fits w64 (n + c)
        years_fit = record { fits = omega (arith, small) }

        pub days_fit : (day : ℕ) → day ≤ 31 → Fits w64 (n + c + (day - 1))
        days_fit day d = record { fits = omega (arith, small) }

pub closed_count :
    (year month day : ℕ) → 1900 ≤ year → 1 ≤ month → month ≤ 12
    → let y : ℕ = cond (leb month 2) (year - 1) year in
    let m : ℕ = (month + 9) % 12 in
    day_count year month day
    ≡ 146097 * (y / 400) + 365 * (y % 400) + y % 400 / 4 - y % 400 / 100 + (153 * m + 2) / 5 + (day - 1) - 693901
closed_count year month day h f l =
    sym (counted year month _ refl _ _ h f l (years_closed _ (march_first year month _ refl h)) (months_closed month f l) day)

pub ruleset counting =
    (march_first, march_last, counted, enough, years_fit, days_fit, rules)
