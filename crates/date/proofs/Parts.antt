-- The parts of a date, one after the other, and the Date.
--     exists-..                  a day that exists in its month, and one that does not
--     value_read, nothing_read   an answer that is a number, as a part of a date
--     zone-..                    the zone
--     end-..                     nothing may stand behind the zone
--     date-..                    one part after the other, to the Date
-- Assumes nothing.
use Prim.Native.Nat.{ℕ, ◌+◌, ◌-◌, ◌≤◌, ◌<◌}
use mathlib.Core.Path.{◌≡◌, refl}
use mathlib.Core.List.{List}
use Rattle.std.specs.Prelude.{Option, Some, None}
use borrow.Author.Rules.{rules}
use borrow.Author.Tests.{le-leb, lt-leb}
use lib.ListN.{drop}
use Rattle.calendar.specs.Calendar.{leap, leap_day, month_length, year_days, month_days, day_count}
use Rattle.datewords.specs.Words.{only_if, first_token}
use Rattle.date.specs.Date.{Read, got, read_of, and_then, next, existing, zoned, epoch, ended}
use Rattle.datewords.specs.Answers.{token_in}
use Rattle.date.specs.Answers.{read_in}
use Rattle.datewords.specs.declared.token.WordAt.{WordAt}
use Rattle.datewords.specs.declared.token.WordAt.TheVariants.{Between, End, Unreadable}
use Rattle.datewords.specs.declared.meaning.Place.TheVariants.{East, West}
use Rattle.date.specs.declared.PartRead.{PartRead}
use Rattle.datewords.proofs.Digits.{value_is, nothing_is}
use Rattle.date.proofs.Reading.{first_between, first_end, first_unreadable, read_got, read_missing, then_got, then_missing}
use Rattle.date.proofs.Ranges.{ranges}

module _ (year month day : ℕ) where
  pub exists_none : day < 1 → None ≡ existing year month day
  unfolding existing only_if
  exists_none h = rw (lt-leb 1 day h)

  module _ (h : 1 ≤ day) (m : ℕ) (e : m ≡ month_length year month) where
    pub exists_past : m < day → None ≡ existing year month day
    unfolding existing only_if
    exists_past l = rw (le-leb 1 day h, ← e, lt-leb day m l)

    pub exists_day : (n : ℕ) → day ≤ m → n ≡ day_count year month day → Some n ≡ existing year month day
    unfolding existing only_if
    exists_day n l p = rw (le-leb 1 day h, ← e, le-leb day m l, p)

pub ruleset existence = (exists_none, exists_past, exists_day, rules)

module _ (s : List ℕ) (to : ℕ) (o : Option ℕ) (m : Option ℕ) (e : m ≡ o) where
  pub value_read : (n : ℕ) → m ≡ Some n → read_in s (Some (record { value = n; to = to })) ≡ read_of o (drop to s)
  unfolding read_in read_of
  value_read n q = rw (value_is o m n e q)

  pub nothing_read : m ≡ None → read_in s None ≡ read_of o (drop to s)
  unfolding read_in read_of
  nothing_read q = rw (nothing_is o m e q)

pub got_read : (s : List ℕ) (to n m : ℕ) → n ≡ m → read_in s (Some (record { value = n; to = to })) ≡ got m (drop to s)
unfolding read_in
got_read s to n m e = rw e

pub ruleset parts = (then_got, then_missing, value_read, nothing_read, got_read, ranges, rules)

module _ (s u : List ℕ) (local : ℕ) (g : Option PartRead) (e : read_in s g ≡ next East u) where
  pub zone_east : (o : PartRead) (n to : ℕ) → g ≡ Some o → n ≡ local - o.value → to ≡ o.to → read_in s (Some (record { value = n; to = to })) ≡ zoned local u
  unfolding zoned read_in
  zone_east o n to q p r = rw (zoned, read_got s g (next East u) e o q, p, r)

  module _ (q : g ≡ None) (h : Option PartRead) (p : read_in s h ≡ next West u) where
    pub zone_west : (o : PartRead) (n to : ℕ) → h ≡ Some o → n ≡ local + o.value → to ≡ o.to → read_in s (Some (record { value = n; to = to })) ≡ zoned local u
    unfolding zoned and_then read_in
    zone_west o n to r v w = rw (zoned, read_missing s g (next East u) e q, read_got s h (next West u) p o r, v, w)

    pub zone_missing : h ≡ None → read_in s None ≡ zoned local u
    unfolding zoned and_then read_in
    zone_missing r = rw (zoned, read_missing s g (next East u) e q, read_missing s h (next West u) p r)

pub ruleset zoning = (zone_east, zone_west, zone_missing, ranges, rules)

epoch_is : epoch ≡ 2208988800
unfolding leap leap_day month_length year_days month_days day_count
epoch_is = refl

module _ (s u : List ℕ) (n : ℕ) (g : WordAt) (e : token_in s g ≡ first_token u) where
  pub end_here : (m : ℕ) → g ≡ End → m ≡ n - 2208988800 → Some m ≡ ended (got n u)
  unfolding ended
  end_here m q p = rw (ended, first_end s u g e q, epoch_is, p)

  pub end_more : (from to : ℕ) → g ≡ Between from to → None ≡ ended (got n u)
  unfolding ended
  end_more from to q = rw (ended, first_between s u g e from to q)

  pub end_unreadable : g ≡ Unreadable → None ≡ ended (got n u)
  unfolding ended
  end_unreadable q = rw (ended, first_unreadable s u g e q)

pub ruleset endings = (end_here, end_more, end_unreadable, rules)

-- the Date, where the reader's answer g is u
module _ (s : List ℕ) (g : Option PartRead) (u : Read) (e : read_in s g ≡ u) where
  pub date_last : (p : PartRead) (r : Option ℕ) → g ≡ Some p → r ≡ ended (got p.value (drop p.to s)) → r ≡ ended u
  date_last p r q h = rw (read_got s g u e p q) h

  pub date_missing : g ≡ None → None ≡ ended u
  unfolding ended
  date_missing q = rw (read_missing s g u e q)

  module _ (f : ℕ → List ℕ → Read) where
    pub date_then : (p : PartRead) (r : Option ℕ) → g ≡ Some p → r ≡ ended (f p.value (drop p.to s)) → r ≡ ended (and_then u f)
    unfolding and_then
    date_then p r q h = rw (read_got s g u e p q) h

    pub date_then_missing : g ≡ None → None ≡ ended (and_then u f)
    unfolding and_then ended
    date_then_missing q = rw (read_missing s g u e q)

pub ruleset dating = (date_then, date_then_missing, date_last, date_missing, ranges, rules)
