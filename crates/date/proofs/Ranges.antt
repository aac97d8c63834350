-- How large a number is, by the place of a date where it stands, so that no sum wraps.
--     range-..                      what a reader answers, by the place
-- Assumes nothing.
use Prim.Native.Nat.{ℕ, ◌+◌, ◌*◌, ◌≤◌}
use mathlib.Core.Path.{◌≡◌, refl}
use mathlib.Core.Bool.{◌&&◌}
use mathlib.Core.List.{List}
use Rattle.std.specs.Prelude.{Option, Some, None}
use native.Mathlib.Omega.{arith}
use mir.Val.{Fits}
use mir.Syntax.{w64}
use borrow.Author.Tests.{leb-true}
use lib.Dec.{leb}
use lib.ListN.{drop}
use Rattle.calendar.specs.Calendar.{month_length, day_count}
use Rattle.datewords.specs.Words.{opens_with, meant, Token, token, end, unreadable, first_token}
use Rattle.date.specs.Date.{Read, got, missing, read_of, and_then, next, optional, existing, calendar_day, time_of_day, local_time}
use Rattle.date.specs.Answers.{read_in}
use Rattle.datewords.specs.declared.meaning.Place.{Place}
use Rattle.datewords.specs.declared.meaning.Place.TheVariants.{Day, Month, Year, UpTo, Colon, West}
use Rattle.date.specs.declared.PartRead.{PartRead}
use Rattle.calendar.proofs.Counting.{month_length_small, day_bound}
use Rattle.datewords.proofs.Digits.{only_if_true, only_if_some, both_right}
use Rattle.datewords.proofs.Large.{two_most, month_some, year_some, west_some}
use Rattle.date.proofs.Reading.{read_got}

not_missing : (n : ℕ) (v : List ℕ) → missing ≡ got n v → ⊥
not_missing n v e = let z : ◌≡◌ {A = ℕ} 0 1 = cc in omega arith

read_some : (o : Option ℕ) (rest v : List ℕ) (n : ℕ) → read_of o rest ≡ got n v → o ≡ Some n
unfolding read_of
read_some None rest v n e = cc
read_some (Some m) rest v n e = cc

-- what the token at a place means
next_some :
    (what : Place) (u v : List ℕ) (n : ℕ) (P : Type 0) → next what u ≡ got n v → ((t : List ℕ) → meant what t ≡ Some n → P) → P
unfolding next read_of
next_some what u v n P e h = go (first_token u) refl
  where
    go : (w : Token) → first_token u ≡ w → P
    go (token t rest) p = h t (read_some (meant what t) rest v n (rw (next, p) at e))
    go end p = absurd (not_missing n v (rw (next, p) at e))
    go unreadable p = absurd (not_missing n v (rw (next, p) at e))

optional_most : (opening : Place) (most : ℕ) (u v : List ℕ) (n : ℕ) → optional opening (UpTo most) u ≡ got n v → n ≤ most
unfolding optional meant
optional_most opening most u v n e = go (next opening u) refl
  where
    go : (w : Read) → next opening u ≡ w → n ≤ most
    go (got m rest) p = next_some (UpTo most) rest v n (n ≤ most) (rw (optional, p) at e) (λ t q. two_most most t n q)
    go missing p = let q : 0 ≡ n = cc (rw (optional, p) at e) in omega arith

-- where one part after the other is there, so is the first
then_some :
    (u : Read) (f : ℕ → List ℕ → Read) (v : List ℕ) (n : ℕ) (P : Type 0) → and_then u f ≡ got n v
    → ((m : ℕ) (rest : List ℕ) → u ≡ got m rest → f m rest ≡ got n v → P) → P
unfolding and_then
then_some (got m rest) f v n P e h = h m rest refl e
then_some missing f v n P e h = absurd (not_missing n v e)

module _ (u v : List ℕ) (n : ℕ) where
  upto_most : (most : ℕ) → next (UpTo most) u ≡ got n v → n ≤ most
  unfolding meant
  upto_most most e = next_some (UpTo most) u v n (n ≤ most) e (λ t p. two_most most t n p)

  month_in : next Month u ≡ got n v → (1 ≤ n) × (n ≤ 12)
  unfolding meant
  month_in e = next_some Month u v n ((1 ≤ n) × (n ≤ 12)) e (λ t p. month_some t n p)

  year_in : next Year u ≡ got n v → (1900 ≤ n) × (n ≤ 9999)
  unfolding meant
  year_in e = next_some Year u v n ((1900 ≤ n) × (n ≤ 9999)) e (λ t p. year_some t n p)

  west_in : next West u ≡ got n v → n ≤ 360_000
  unfolding meant
  west_in e = next_some West u v n (n ≤ 360_000) e (λ t p. west_some (opens_with t) t n p)

exists_in : (year month day n : ℕ) → year ≤ 9999 → month ≤ 12 → existing year month day ≡ Some n → n ≤ 3_000_000
unfolding existing
exists_in year month day n hy hm e =
    let p : day_count year month day ≡ n = cc (only_if_some (leb 1 day && leb day (month_length year month)) _ n e) in
    let q : day ≤ month_length year month =
    leb-true day (month_length year month) (both_right (leb 1 day) _ (only_if_true (leb 1 day && leb day (month_length year month)) _ n e)) in
    rw (← p) (day_bound year month day hy hm (omega (arith, month_length_small year month)))

module _ (u v : List ℕ) (n : ℕ) where
  days_in : calendar_day u ≡ got n v → n ≤ 3_000_000
  unfolding calendar_day
  days_in e =
      then_some (next Day u) _ v n (n ≤ 3_000_000) e
      (λ day a pd ed. then_some (next Month a) _ v n (n ≤ 3_000_000) ed
      (λ month b pm em. then_some (next Year b) _ v n (n ≤ 3_000_000) em
      (λ year c py ey.
      exists_in year month day n (year_in b c year py).1 (month_in a b month pm).1 (read_some (existing year month day) c v n ey))))

  time_in : time_of_day u ≡ got n v → n ≤ 86_400
  unfolding time_of_day
  time_in e =
      then_some (next (UpTo 23) u) _ v n (n ≤ 86_400) e
      (λ hours a ph eh. then_some (next Colon a) _ v n (n ≤ 86_400) eh
      (λ _ b pc ec. then_some (next (UpTo 59) b) _ v n (n ≤ 86_400) ec
      (λ minutes c pm em. then_some (optional Colon (UpTo 60) c) _ v n (n ≤ 86_400) em
      (λ seconds d ps es.
      let q : 3600 * hours + 60 * minutes + seconds ≡ n = cc in
      omega (arith, upto_most u a hours 23 ph, upto_most b c minutes 59 pm, optional_most Colon 60 c d seconds ps)))))

module _ (u v : List ℕ) (n : ℕ) where
  local_in : local_time u ≡ got n v → n ≤ 300_000_000_000
  unfolding local_time
  local_in e =
      then_some (calendar_day u) _ v n (n ≤ 300_000_000_000) e
      (λ days a pd ed. then_some (time_of_day a) _ v n (n ≤ 300_000_000_000) ed
      (λ seconds b ps es.
      let q : 86400 * days + seconds ≡ n = cc in
      omega (arith, days_in u a days pd, time_in a b seconds ps)))

-- what a reader's answer g is, at most
module _ (s u : List ℕ) (g : Option PartRead) (p : PartRead) (q : g ≡ Some p) where
  pub range_upto : (most : ℕ) → read_in s g ≡ next (UpTo most) u → p.value ≤ most
  range_upto most e = upto_most u (drop p.to s) p.value most (read_got s g _ e p q)

  pub range_optional : (opening : Place) (most : ℕ) → read_in s g ≡ optional opening (UpTo most) u → p.value ≤ most
  range_optional opening most e = optional_most opening most u (drop p.to s) p.value (read_got s g _ e p q)

  module _ (e : read_in s g ≡ next Month u) where
    pub range_first_month : 1 ≤ p.value
    range_first_month = (month_in u (drop p.to s) p.value (read_got s g _ e p q)).0

    pub range_last_month : p.value ≤ 12
    range_last_month = (month_in u (drop p.to s) p.value (read_got s g _ e p q)).1

  module _ (e : read_in s g ≡ next Year u) where
    pub range_first_year : 1900 ≤ p.value
    range_first_year = (year_in u (drop p.to s) p.value (read_got s g _ e p q)).0

    pub range_last_year : p.value ≤ 9999
    range_last_year = (year_in u (drop p.to s) p.value (read_got s g _ e p q)).1

  pub range_days : read_in s g ≡ calendar_day u → p.value ≤ 3_000_000
  range_days e = days_in u (drop p.to s) p.value (read_got s g _ e p q)

  pub range_time : read_in s g ≡ time_of_day u → p.value ≤ 86_400
  range_time e = time_in u (drop p.to s) p.value (read_got s g _ e p q)

  pub range_local : read_in s g ≡ local_time u → p.value ≤ 300_000_000_000
  range_local e = local_in u (drop p.to s) p.value (read_got s g _ e p q)

  pub range_west : (local : ℕ) → local ≤ 300_000_000_000 → read_in s g ≡ next West u → Fits w64 (local + p.value)
  range_west local h e = record { fits = omega (arith, west_in u (drop p.to s) p.value (read_got s g _ e p q)) }

pub ruleset ranges =
    (range_upto, range_optional, range_first_month, range_last_month, range_first_year, range_last_year, range_days, range_time, range_local, range_west)
