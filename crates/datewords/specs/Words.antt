-- SCOPE, D3 to D12: the words of a Date, which are its tokens, and what each means at the place where it stands. A value is read
-- from its front, a token at a time.
--     opening_of, first_token   tokens
--     number_of, place_in       runs of digits, and names
--     meant                     what a token means at each place of a date
use Rattle.std.specs.Prelude.{ℕ, ◌+◌, ◌-◌, ◌*◌, ◌/◌, ◌%◌, Bool, true, false, ◌&&◌, List, [], ◌∷◌, leb, eqb, length, get_or, take, drop}
use Rattle.std.specs.Prelude.{Option, Some, None, option_and_then}
use Rattle.octets.specs.Octets.{ascii, octet, same_octets, same_name}
use Rattle.runs.specs.Runs.{belongs, run_length}
use Rattle.runs.specs.declared.Class.TheVariants.{Digit, Letter}
use Rattle.tokens.specs.Tokens.{skipped}
use Rattle.datewords.specs.declared.token.Opening.{Opening}
use Rattle.datewords.specs.declared.token.Opening.TheVariants.{Number, Word, Plus, Minus, Mark}
use Rattle.datewords.specs.declared.meaning.Place.{Place}
use Rattle.datewords.specs.declared.meaning.Place.TheVariants.{DayName, Comma, Day, Month, Year, UpTo, Colon, East, West}

-- D4: what a token is shows in its first octet: digits, letters, a sign, a comma or a colon. Any other octet counts as a token by
-- itself, which no place of a date takes.
unfoldable pub opening_of : ℕ → Opening
opening_of x =
    elim (belongs Digit x) [
      | true ↦ Number
      | false ↦ elim (belongs Letter x) [
        | true ↦ Word
        | false ↦ elim (eqb x (octet "+")) [
          | true ↦ Plus
          | false ↦ elim (eqb x (octet "-")) [ true ↦ Minus | false ↦ Mark ]
        ]
      ]
    ]

-- D4: how many of the octets s behind its first one a token has; a run is taken whole, and a sign takes the digits behind it
unfoldable pub further : Opening → List ℕ → ℕ
further Number s = run_length Digit s
further Word s = run_length Letter s
further Plus s = run_length Digit s
further Minus s = run_length Digit s
further Mark s = 0

-- a token and the octets behind it; or the end; or a comment that cannot be read
pub data Token : Type 0 where
  token : List ℕ → List ℕ → Token
  end : Token
  unreadable : Token

-- D4: the token that a text opens with
unfoldable pub token_at : List ℕ → Token
token_at [] = end
token_at (x ∷ s) = let n = further (opening_of x) s in token (x ∷ take n s) (drop n s)

-- D5: blanks and comments may stand in front of a token. D6: a comment is read as in lists.
unfoldable pub first_token : List ℕ → Token
first_token s = elim (skipped s) [ None ↦ unreadable | Some rest ↦ token_at rest ]

-- the number, where the test holds
unfoldable pub only_if : Bool → Option ℕ → Option ℕ
only_if true o = o
only_if false o = None

-- the number that one digit stands for
unfoldable pub digit_of : ℕ → Option ℕ
digit_of x = only_if (belongs Digit x) (Some (x - octet "0"))

-- the number that a run of digits stands for, n standing before it; none where an octet is no digit
unfoldable pub value_from : ℕ → List ℕ → Option ℕ
value_from n [] = Some n
value_from n (x ∷ s) = option_and_then (λ d. value_from (10 * n + d) s) (digit_of x)

-- D8 to D11: no place of a date takes more than four digits
unfoldable pub number_of : List ℕ → Option ℕ
number_of t = only_if (leb (length t) 4) (value_from 0 t)

-- D7: the seven day names, one after the other
abbrev pub day_names : List ℕ
day_names = ascii "MonTueWedThuFriSatSun"

-- D8: the twelve months, one after the other
abbrev pub month_names : List ℕ
month_names = ascii "JanFebMarAprMayJunJulAugSepOctNovDec"

-- D12: the eight zones that lie west, one after the other
abbrev pub zone_names : List ℕ
zone_names = ascii "ESTEDTCSTCDTMSTMDTPSTPDT"

-- D12: how many hours each of these zones lies west
abbrev pub zone_hours : List ℕ
zone_hours = 5 ∷ 4 ∷ 6 ∷ 5 ∷ 7 ∷ 6 ∷ 8 ∷ 7 ∷ []

-- k here, or the place found later
unfoldable pub here_or : Bool → ℕ → Option ℕ → Option ℕ
here_or true k later = Some k
here_or false k later = later

-- D7, D8, D12: which of the names of three letters t is, in any case, the first one being k; none where it is none of them
unfoldable pub place_from : ℕ → List ℕ → List ℕ → Option ℕ
place_from k t [] = None
place_from k t (a ∷ []) = None
place_from k t (a ∷ b ∷ []) = None
place_from k t (a ∷ b ∷ c ∷ names) = here_or (same_name t (a ∷ b ∷ c ∷ [])) k (place_from (k + 1) t names)

-- which of the names t is, the first one being 0
abbrev pub place_in : List ℕ → List ℕ → Option ℕ
place_in t names = place_from 0 t names

-- D3: a comma or a colon, which stands for nothing
unfoldable pub mark_of : List ℕ → List ℕ → Option ℕ
mark_of t mark = only_if (same_octets t mark) (Some 0)

-- D8: the day has one digit or two
unfoldable pub day_of : List ℕ → Option ℕ
day_of t = only_if (leb (length t) 2) (number_of t)

-- D8: the months count from 1
unfoldable pub month_of : List ℕ → Option ℕ
month_of t = option_and_then (λ k. Some (k + 1)) (place_in t month_names)

-- D9: the year, by how many digits it has
unfoldable pub year_by : ℕ → ℕ → Option ℕ
year_by width n =
    elim (eqb width 2) [
      | true ↦ elim (leb n 49) [ true ↦ Some (n + 2000) | false ↦ Some (n + 1900) ]
      | false ↦ elim (eqb width 3) [ true ↦ Some (n + 1900) | false ↦ only_if (eqb width 4 && leb 1900 n) (Some n) ]
    ]

-- D9: a year of two, three or four digits
unfoldable pub year_of : List ℕ → Option ℕ
year_of t = option_and_then (λ n. year_by (length t) n) (number_of t)

-- D10: two digits that stand for so much at most
unfoldable pub two_digits : ℕ → List ℕ → Option ℕ
two_digits most t = only_if (eqb (length t) 2) (option_and_then (λ n. only_if (leb n most) (Some n)) (number_of t))

-- D11: the seconds that four digits of a zone stand for, two for hours and two for minutes; these end at 59
unfoldable pub offset_by : ℕ → Option ℕ
offset_by n = only_if (leb (n % 100) 59) (Some (3600 * (n / 100) + 60 * (n % 100)))

-- D11: exactly four digits, which stood behind a sign
unfoldable pub offset_of : List ℕ → Option ℕ
offset_of t = only_if (eqb (length t) 4) (option_and_then (λ n. offset_by n) (number_of t))

-- D12: letters that are none of the eight names lie at 0
unfoldable pub hours_west : List ℕ → ℕ
hours_west t = elim (place_in t zone_names) [ None ↦ 0 | Some k ↦ get_or zone_hours k 0 ]

-- what a token is, by its first octet
abbrev pub opens_with : List ℕ → Opening
opens_with t = opening_of (get_or t 0 0)

-- D11: how many seconds a zone t lies east, by what it opens with; only `+` lies east
unfoldable pub east_by : Opening → List ℕ → Option ℕ
east_by Number t = None
east_by Word t = None
east_by Plus t = offset_of (drop 1 t)
east_by Minus t = None
east_by Mark t = None

-- D11, D12: how many seconds a zone t lies west, by what it opens with; `-` and letters lie west, be it by 0
unfoldable pub west_by : Opening → List ℕ → Option ℕ
west_by Number t = None
west_by Word t = Some (3600 * hours_west t)
west_by Plus t = None
west_by Minus t = offset_of (drop 1 t)
west_by Mark t = None

-- D3: what a token means at a place of a date; none: it may not stand there. D7: at the place of the day name any of the seven
-- will do.
unfoldable pub meant : Place → List ℕ → Option ℕ
meant DayName t = place_in t day_names
meant Comma t = mark_of t (ascii ",")
meant Day t = day_of t
meant Month t = month_of t
meant Year t = year_of t
meant (UpTo most) t = two_digits most t
meant Colon t = mark_of t (ascii ":")
meant East t = east_by (opens_with t) t
meant West t = west_by (opens_with t) t
