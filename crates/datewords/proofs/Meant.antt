-- What a token means at each place of a date: a test or an answer of the code, and what the definition says.
--     mark-.., day-.., month-.., year-.., two-.., offset-.., hours-.., east-.., west-..     by the function
--     number_fits          a number that was read is at most 9999
--     meant_as             the place that was asked for
-- Assumes nothing.
use Prim.Native.Nat.{ℕ, ◌+◌, ◌-◌, ◌*◌, ◌/◌, ◌%◌, ◌≤◌, ◌<◌}
use mathlib.Core.Path.{◌≡◌, refl, sym, ◌∙◌}
use mathlib.Core.Bool.{Bool, true, false}
use mathlib.Core.List.{List, [], ◌∷◌}
use Rattle.std.specs.Prelude.{Some, Option, None}
use native.Mathlib.Omega.{arith}
use mir.Val.{Fits}
use mir.Syntax.{w64}
use borrow.Author.Rules.{rules}
use borrow.Author.Tests.{eq-eqb, ne_eqb, le-leb, lt-leb}
use lib.ListN.{length, get_or, take, drop, length-drop}
use lib.Seq.{take_all}
use Rattle.octets.specs.Octets.{same_octets}
use Rattle.datewords.specs.Words.{opening_of, number_of, month_names, zone_names, zone_hours, place_in, mark_of, day_of, month_of, year_by, year_of, only_if, two_digits, offset_by, offset_of, hours_west, opens_with, east_by, west_by, meant}
use Rattle.datewords.specs.declared.token.Opening.{Opening}
use Rattle.datewords.specs.declared.meaning.Place.{Place}
use Rattle.octets.proofs.Lists.{at_most}
use Rattle.runs.specs.Runs.{belongs}
use Rattle.datewords.proofs.Digits.{value_is, nothing_is, number_small}
use Rattle.datewords.proofs.Naming.{place_below}

empty : (t : List ℕ) → length t ≡ 0 → t ≡ []
empty [] h = refl
empty (x ∷ t) h = absurd (omega arith)

module _ (t mark : List ℕ) (b : Bool) (e : b ≡ same_octets t mark) where
  pub mark_is : b ≡ true → Some 0 ≡ mark_of t mark
  unfolding mark_of only_if
  mark_is q = rw (sym e ∙ q)

  pub mark_none : b ≡ false → None ≡ mark_of t mark
  unfolding mark_of only_if
  mark_none q = rw (sym e ∙ q)

pub ruleset marks = (mark_is, mark_none, rules)

module _ (t : List ℕ) where
  pub day_long : 2 < length t → None ≡ day_of t
  unfolding day_of only_if
  day_long h = rw (lt-leb (length t) 2 h)

  pub day_short : (r : Option ℕ) → length t ≤ 2 → r ≡ number_of t → r ≡ day_of t
  unfolding day_of only_if
  day_short r h e = rw (le-leb (length t) 2 h) e

pub ruleset days = (day_long, day_short, rules)

module _ (t : List ℕ) (r : Option ℕ) (e : r ≡ place_in t month_names) where
  pub month_is : (k : ℕ) → r ≡ Some k → Some (k + 1) ≡ month_of t
  unfolding month_of
  month_is k q = rw (value_is (place_in t month_names) r k e q)

  pub month_none : r ≡ None → None ≡ month_of t
  unfolding month_of
  month_none q = rw (nothing_is (place_in t month_names) r e q)

  pub month_fits : (k : ℕ) → r ≡ Some k → Fits w64 (k + 1)
  month_fits k q = record { fits = omega (arith, place_below t month_names 0 k (value_is _ r k e q)) }

pub ruleset months = (month_is, month_none, month_fits, rules)

module _ (width n : ℕ) where
  module _ (two : width ≡ 2) where
    pub year_new : n ≤ 49 → Some (n + 2000) ≡ year_by width n
    unfolding year_by only_if
    year_new h = rw (year_by, eq-eqb width 2 two, le-leb n 49 h)

    pub year_old : 49 < n → Some (n + 1900) ≡ year_by width n
    unfolding year_by only_if
    year_old h = rw (year_by, eq-eqb width 2 two, lt-leb n 49 h)

  module _ (two : width ≡ 2 → ⊥) where
    pub year_three : width ≡ 3 → Some (n + 1900) ≡ year_by width n
    unfolding year_by only_if
    year_three h = rw (year_by, ne_eqb width 2 two, eq-eqb width 3 h)

    module _ (three : width ≡ 3 → ⊥) where
      pub year_none : (width ≡ 4 → ⊥) → None ≡ year_by width n
      unfolding year_by only_if
      year_none h = rw (year_by, ne_eqb width 2 two, ne_eqb width 3 three, ne_eqb width 4 h)

      pub year_early : width ≡ 4 → n < 1900 → None ≡ year_by width n
      unfolding year_by only_if
      year_early h l = rw (year_by, ne_eqb width 2 two, ne_eqb width 3 three, eq-eqb width 4 h, lt-leb 1900 n l)

      pub year_four : width ≡ 4 → 1900 ≤ n → Some n ≡ year_by width n
      unfolding year_by only_if
      year_four h l = rw (year_by, ne_eqb width 2 two, ne_eqb width 3 three, eq-eqb width 4 h, le-leb 1900 n l)

-- behind a number that was read
module _ (t : List ℕ) (g : Option ℕ) (e : g ≡ number_of t) where
  pub number_fits : (n : ℕ) → g ≡ Some n → n ≤ 9999
  number_fits n q = number_small t n (value_is _ g n e q)

  pub year_is : (n : ℕ) (r : Option ℕ) → g ≡ Some n → r ≡ year_by (length t) n → r ≡ year_of t
  unfolding year_of
  year_is n r q h = rw (value_is (number_of t) g n e q) h

  pub year_no_number : g ≡ None → None ≡ year_of t
  unfolding year_of
  year_no_number q = rw (nothing_is (number_of t) g e q)

  module _ (most : ℕ) (w : length t ≡ 2) where
    pub two_is : (n : ℕ) → g ≡ Some n → n ≤ most → Some n ≡ two_digits most t
    unfolding two_digits only_if
    two_is n q h = rw (eq-eqb (length t) 2 w, value_is (number_of t) g n e q, le-leb n most h)

    pub two_above : (n : ℕ) → g ≡ Some n → most < n → None ≡ two_digits most t
    unfolding two_digits only_if
    two_above n q h = rw (eq-eqb (length t) 2 w, value_is (number_of t) g n e q, lt-leb n most h)

    pub two_no_number : g ≡ None → None ≡ two_digits most t
    unfolding two_digits only_if
    two_no_number q = rw (eq-eqb (length t) 2 w, nothing_is (number_of t) g e q)

  module _ (w : length t ≡ 4) where
    pub offset_is : (n : ℕ) (r : Option ℕ) → g ≡ Some n → r ≡ offset_by n → r ≡ offset_of t
    unfolding offset_of only_if
    offset_is n r q h = rw (eq-eqb (length t) 4 w, value_is (number_of t) g n e q) h

    pub offset_no_number : g ≡ None → None ≡ offset_of t
    unfolding offset_of only_if
    offset_no_number q = rw (eq-eqb (length t) 4 w, nothing_is (number_of t) g e q)

pub two_width : (t : List ℕ) (most : ℕ) → (length t ≡ 2 → ⊥) → None ≡ two_digits most t
unfolding two_digits only_if
two_width t most h = rw (ne_eqb (length t) 2 h)

pub offset_width : (t : List ℕ) → (length t ≡ 4 → ⊥) → None ≡ offset_of t
unfolding offset_of only_if
offset_width t h = rw (ne_eqb (length t) 4 h)

pub offset_minutes : (n : ℕ) → n % 100 ≤ 59 → Some (3600 * (n / 100) + 60 * (n % 100)) ≡ offset_by n
unfolding offset_by only_if
offset_minutes n h = rw (le-leb (n % 100) 59 h)

pub offset_none : (n : ℕ) → 59 < n % 100 → None ≡ offset_by n
unfolding offset_by only_if
offset_none n h = rw (lt-leb (n % 100) 59 h)

pub ruleset years = (year_new, year_old, year_three, year_none, year_early, year_four, number_fits, year_is, year_no_number, rules)

pub ruleset twos = (two_width, two_is, two_above, two_no_number, rules)

pub ruleset offsets = (offset_width, offset_is, offset_no_number, offset_minutes, offset_none, number_fits, rules)

module _ (t : List ℕ) (r : Option ℕ) (e : r ≡ place_in t zone_names) where
  module _ (k : ℕ) (q : r ≡ Some k) where
    pub hours_below : k < 8
    hours_below = omega (arith, place_below t zone_names 0 k (value_is _ r k e q))

    pub hours_index : Fits w64 (k * 8)
    hours_index = record { fits = omega (arith, hours_below) }

    pub hours_is : get_or zone_hours k 0 ≡ hours_west t
    unfolding hours_west
    hours_is = rw (hours_west, value_is (place_in t zone_names) r k e q)

    pub hours_few : get_or zone_hours k 0 ≤ 8
    hours_few = at_most 8 zone_hours (omega arith) k

  pub hours_none : r ≡ None → 0 ≡ hours_west t
  unfolding hours_west
  hours_none q = rw (hours_west, nothing_is (place_in t zone_names) r e q)

pub ruleset hours = (hours_below, hours_index, hours_is, hours_few, hours_none, rules)

module _ (t : List ℕ) where
  pub east_empty : length t ≡ 0 → None ≡ east_by (opens_with t) t
  unfolding opening_of belongs east_by
  east_empty h = rw (empty t h)

  pub west_empty : length t ≡ 0 → None ≡ west_by (opens_with t) t
  unfolding opening_of belongs west_by
  west_empty h = rw (empty t h)

  pub behind_sign : (r : Option ℕ) → r ≡ offset_of (take (length t - 1) (drop 1 t)) → r ≡ offset_of (drop 1 t)
  behind_sign r e = rw (take_all (length t - 1) (drop 1 t) (omega (arith, length-drop 1 t))) at e

  module _ (g k : Opening) (e : g ≡ opens_with t) (q : g ≡ k) (r : Option ℕ) where
    pub east_as : r ≡ east_by k t → r ≡ east_by (opens_with t) t
    east_as h = rw (← e, q) h

    pub west_as : r ≡ west_by k t → r ≡ west_by (opens_with t) t
    west_as h = rw (← e, q) h

pub west_named : (n m : ℕ) → n ≡ m → Some (3600 * n) ≡ Some (3600 * m)
west_named n m e = rw e

pub ruleset zones = (east_empty, west_empty, behind_sign, east_as, west_as, west_named, rules)

pub meant_as : (p q : Place) (t : List ℕ) (r : Option ℕ) → p ≡ q → r ≡ meant q t → r ≡ meant p t
meant_as p q t r e h = rw e h

pub ruleset meanings = (meant_as, rules)
