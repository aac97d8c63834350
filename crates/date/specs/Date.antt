-- SCOPE, page D: the Date, where the value of its field reads as a date, and the effective date. A value is read from its front, a
-- token at a time: a reader takes the octets that are left and gives a number and the octets left behind it.
--     next, optional            the token at a place, and a part that may be missing
--     calendar_day .. zoned     the date's parts, in their order
--     date_of                   the Date in seconds since the beginning of 1970, none where it is unavailable
--     effective_date            the effective date
use Rattle.std.specs.Prelude.{ℕ, ◌+◌, ◌-◌, ◌*◌, min, ◌&&◌, List, leb}
use Rattle.std.specs.Prelude.{Option, Some, None}
use Rattle.calendar.specs.Calendar.{month_length, day_count}
use Rattle.datewords.specs.Words.{token, end, unreadable, first_token, only_if, meant}
use Rattle.datewords.specs.declared.meaning.Place.{Place}
use Rattle.datewords.specs.declared.meaning.Place.TheVariants.{DayName, Comma, Day, Month, Year, UpTo, Colon, East, West}

-- a number, and the octets that are left; or what was looked for is missing
pub data Read : Type 0 where
  got : ℕ → List ℕ → Read
  missing : Read

-- the number, where there is one, and the octets behind it
unfoldable pub read_of : Option ℕ → List ℕ → Read
read_of None rest = missing
read_of (Some n) rest = got n rest

-- one part, and then the part that f reads behind it
unfoldable pub and_then : Read → (ℕ → List ℕ → Read) → Read
and_then (got n rest) f = f n rest
and_then missing f = missing

-- D3: the token that is to stand at a place of a date
unfoldable pub next : Place → List ℕ → Read
next place s =
    elim (first_token s) [ token t rest ↦ read_of (meant place t) rest | end ↦ missing | unreadable ↦ missing ]

-- D3: two tokens that may both be missing, and count as 0 then (D10). D7: where the first one is there, the second must follow.
unfoldable pub optional : Place → Place → List ℕ → Read
optional opening closing s = elim (next opening s) [ got n rest ↦ next closing rest | missing ↦ got 0 s ]

-- D8: the month must have such a day in that year; the days since 1 January 1900
unfoldable pub existing : ℕ → ℕ → ℕ → Option ℕ
existing year month day = only_if (leb 1 day && leb day (month_length year month)) (Some (day_count year month day))

-- D3: day, month, year
unfoldable pub calendar_day : List ℕ → Read
calendar_day s =
    and_then (next Day s)
    (λ day a. and_then (next Month a) (λ month b. and_then (next Year b) (λ year c. read_of (existing year month day) c)))

-- D3: hour, colon, minute, and a colon with the second, which may be missing: the seconds since midnight. D10: the hour is 23 at
-- most, the minute 59 and the second 60, which comes one second behind 59; a missing one is 0.
unfoldable pub time_of_day : List ℕ → Read
time_of_day s =
    and_then (next (UpTo 23) s)
    (λ hours a.
    and_then (next Colon a)
    (λ _ b.
    and_then (next (UpTo 59) b)
    (λ minutes c.
    and_then (optional Colon (UpTo 60) c)
    (λ seconds d. got (3600 * hours + 60 * minutes + seconds) d))))

-- D3: the day and the time of day: the seconds since 1900, as the zone's own clock has them. T6: every day counts 86,400 of them.
unfoldable pub local_time : List ℕ → Read
local_time s = and_then (calendar_day s) (λ days a. and_then (time_of_day a) (λ seconds b. got (86400 * days + seconds) b))

-- D13: the time in UTC is the local one less an east offset, or with a west one added on. D3: the zone must be there.
unfoldable pub zoned : ℕ → List ℕ → Read
zoned local s =
    elim (next East s) [
      | got offset rest ↦ got (local - offset) rest
      | missing ↦ and_then (next West s) (λ offset rest. got (local + offset) rest)
    ]

-- T6: times count from 1970, which is so many seconds behind the beginning of 1900
abbrev pub epoch : ℕ
epoch = 86400 * day_count 1970 1 1

-- D3: nothing stands behind the zone. D13: what lies before 1970 is 0.
unfoldable pub ended : Read → Option ℕ
ended missing = None
ended (got n s) = elim (first_token s) [ token t rest ↦ None | end ↦ Some (n - epoch) | unreadable ↦ None ]

-- D3: all parts, the day name with its comma perhaps missing. D1: none where the value does not read.
unfoldable pub date_of : List ℕ → Option ℕ
date_of s = ended (and_then (optional DayName Comma s) (λ _ a. and_then (local_time a) (λ local b. zoned local b)))

-- D2: the receipt time, or a Date that is smaller
unfoldable pub effective_date : Option ℕ → ℕ → ℕ
effective_date None receipt = receipt
effective_date (Some date) receipt = min date receipt
