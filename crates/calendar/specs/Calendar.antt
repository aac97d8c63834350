-- SCOPE, D8: the calendar, and the count of days by a walk over the years and a table of the months.
--     leap          is the year a leap year?
--     leap_day      the days that a year has more than 365
--     month_length  how many days a month of a year has, the months being 1 to 12
--     day_count     how many days lie between 1 January 1900 and a day of 1900 or later
use Rattle.std.specs.Prelude.{ℕ, zero, suc, ◌+◌, ◌-◌, ◌%◌, Bool, true, false, List, [], ◌∷◌, eqb, get_or}

-- D8: every fourth year is a leap year, of the full hundreds only every fourth one
unfoldable pub leap : ℕ → Bool
leap year = elim (eqb (year % 100) 0) [ true ↦ eqb (year % 400) 0 | false ↦ eqb (year % 4) 0 ]

-- D8: a leap year has one day more
unfoldable pub leap_day : ℕ → ℕ
leap_day year = elim (leap year) [ true ↦ 1 | false ↦ 0 ]

-- D8: the months from January on, February without its leap day
abbrev pub month_lengths : List ℕ
month_lengths = 31 ∷ 28 ∷ 31 ∷ 30 ∷ 31 ∷ 30 ∷ 31 ∷ 31 ∷ 30 ∷ 31 ∷ 30 ∷ 31 ∷ []

-- D8: the last day that a month has in a year
unfoldable pub month_length : ℕ → ℕ → ℕ
month_length year month =
    elim (eqb month 2) [ true ↦ 28 + leap_day year | false ↦ get_or month_lengths (month - 1) 0 ]

-- the days of so many years, the first being 1900
unfoldable pub year_days : ℕ → ℕ
year_days zero = 0
year_days (suc years) = year_days years + (365 + leap_day (1900 + years))

-- the days of so many months of a year, the first being January
unfoldable pub month_days : ℕ → ℕ → ℕ
month_days year zero = 0
month_days year (suc months) = month_days year months + month_length year (suc months)

unfoldable pub day_count : ℕ → ℕ → ℕ → ℕ
day_count year month day = year_days (year - 1900) + month_days year (month - 1) + (day - 1)
