-- Dates worked out, in one table: those of C14, and texts that D4 to D12 decide. Each is computed from the definition.
-- Assumes nothing.
use Prim.Native.Nat.{ℕ}
use Prim.Native.String.{String}
use mathlib.Core.Path.{◌≡◌, refl}
use mathlib.Core.List.{List, [], ◌∷◌, map}
use Rattle.std.specs.Prelude.{Option, Some, None}
use Rattle.octets.specs.Octets.{ascii, lower, lowered, same_name, same_octets, blank}
use Rattle.runs.specs.Runs.{belongs, run}
use Rattle.tokens.specs.Tokens.{past, kind_of, control}
use Rattle.calendar.specs.Calendar.{leap, leap_day, month_length, year_days, month_days, day_count}
use Rattle.datewords.specs.Words.{opening_of, further, token_at, first_token, only_if, digit_of, value_from, number_of, here_or, place_from, mark_of, day_of, month_of, year_by, year_of, two_digits, offset_by, offset_of, hours_west, east_by, west_by, meant}
use Rattle.date.specs.Date.{read_of, and_then, next, optional, existing, calendar_day, time_of_day, local_time, zoned, ended, date_of}

-- a text, and the Date that it stands for
data Example : Type 0 where
  ◌gives◌ : String → Option ℕ → Example

infix 20 ◌gives◌
read : Example → Option ℕ
read (text gives date) = date_of (ascii text)

expected : Example → Option ℕ
expected (text gives date) = date

examples : List Example
examples =
    -- C14: D13 and D8
    ("1 Jan 1970 00:00:00 +0000" gives Some 0)
    ∷ ("1 Jan 1970 00:30 +0100" gives Some 0)
    ∷ ("1 Mar 2000 00:00:00 -0100" gives Some 951872400)
    ∷ ("29 Feb 1900 00:00 GMT" gives None)
    -- D4, D5: whole runs make the tokens, and no blank is needed. D6: a comment has to close.
    ∷ ("mon,1jan70 00:00:03z" gives Some 3)
    ∷ ("1 Jan 2000 00:00+0100" gives Some 946681200)
    ∷ ("1 Jan 20()00 00:00 GMT" gives None)
    ∷ ("(a (b)) 1 Jan 1970 00:00 (c) GMT (d)" gives Some 0)
    ∷ ("1 Jan 1970 00:00 GMT (" gives None)
    -- D11: a sign and its digits are one token; the hours of a zone end at 99, its minutes at 59
    ∷ ("1 Jan 2000 00:00 + 0100" gives None)
    ∷ ("5 Jan 1970 04:00 +9959" gives Some 60)
    ∷ ("5 Jan 1970 04:00 +0060" gives None)
    -- D12: a zone of letters is one run of any length
    ∷ ("1 Jan 1970 00:00 pst" gives Some 28800)
    ∷ ("1 Jan 1970 00:00 Zulu" gives Some 0)
    ∷ ("1 Jan 1970 00:00 GMT+0100" gives None)
    -- D10: second 60 comes one behind second 59, in any minute
    ∷ ("1 Jan 1970 00:00:60 +0000" gives Some 60)
    ∷ ("1 Jan 1970 00:00:61 +0000" gives None)
    ∷ ("1 Jan 1970 00:60 +0000" gives None)
    -- D7: a day name has three letters, any of the seven will do, and its comma must follow
    ∷ ("Sun, 1 Jan 1970 00:00 GMT" gives Some 0)
    ∷ ("Sunday, 1 Jan 1970 00:00 GMT" gives None)
    ∷ ("Sun 1 Jan 1970 00:00 GMT" gives None)
    -- D9: years of two, three and four digits
    ∷ ("1 Jan 49 00:00 GMT" gives Some 2493072000)
    ∷ ("31 Dec 50 00:00 GMT" gives Some 0)
    ∷ ("1 Jan 100 00:00 GMT" gives Some 946684800)
    ∷ ("1 Jan 0099 00:00 GMT" gives None)
    ∷ []

worked : map read examples ≡ map expected examples
unfolding examples read expected lower lowered same_name same_octets blank past kind_of control belongs run leap leap_day month_length year_days month_days day_count opening_of further token_at first_token only_if digit_of value_from number_of here_or place_from mark_of day_of month_of year_by year_of two_digits offset_by offset_of hours_west east_by west_by meant read_of and_then next optional existing calendar_day time_of_day local_time zoned ended date_of
worked = refl
