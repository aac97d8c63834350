-- Texts written one behind the other, each from the place that the call before it answered.
--     room_one .. two_put       two parts of a text: there is room for each, and together they are the text
--     room_next .. three_put    three parts
--     text_room .. put_there    a text and one octet behind it
--     one_room .. last_put      the digits of a number
--     same_room .. is_none      a text that is equal to the one that was written
--     the rulesets              ending, for `put_text` and `put_number`; counting, for `put_decimal`; choosing, for `put_time` and
--                               `put_preference`
-- Assumes nothing.
use Prim.Native.Nat.{ℕ, ◌+◌, ◌/◌, ◌%◌, ◌^◌, ◌<◌, ◌≤◌}
use mathlib.Core.Path.{◌≡◌, refl, ap, ◌∙◌}
use mathlib.Core.Bool.{Bool, true, false}
use mathlib.Core.List.{List, [], ◌∷◌, ◌++◌}
use native.Mathlib.Omega.{arith}
use borrow.Author.Rules.{rules}
use mir.Syntax.{w64}
use mir.Val.{Fits}
use lib.ListN.{length, set, length-append}
use Rattle.std.specs.Prelude.{Option, Some, None}
use Rattle.octets.specs.Octets.{ascii}
use Rattle.octets.specs.Written.{put_at}
use Rattle.octets.proofs.Writing.{begin_at, put, puts, done_at}
use Rattle.heads.proofs.Parts.{put_more, put_length}
use Rattle.columns.specs.Columns.{decimal, time_text, preference_text, ended}
use Rattle.columns.specs.Putting.{Room, Put}
use Rattle.columns.proofs.Decimal.{decimal_one, decimal_more, ended_long}

-- the text w is u and then v
module _ (w u v d : List ℕ) (at : ℕ) (r : Room d at w) (s : w ≡ u ++ v) where
  both_long : length w ≡ length u + length v
  both_long = ap length s ∙ length-append u v

  pub room_one : Room d at u
  room_one = record { fits = omega (arith, both_long, r.fits) }

  module _ (d₁ : List ℕ) (o₁ : ℕ) (p₁ : Put d d₁ at u o₁) where
    pub room_two : Room d₁ o₁ v
    room_two = record { fits = rw (p₁.text, put_length d u at room_one.fits) (omega (arith, both_long, r.fits, p₁.place)) }

    pub two_put : (d₂ : List ℕ) (o₂ : ℕ) → Put d₁ d₂ o₁ v o₂ → Put d d₂ at w o₂
    two_put d₂ o₂ p₂ =
        record {
          text = p₂.text ∙ rw (p₁.text, p₁.place, s) (put_more d u v at (length u) refl room_one.fits);
          place = omega (arith, both_long, p₁.place, p₂.place);
        }

-- the text w is u and then v and then x
module _ (w u v x d : List ℕ) (at : ℕ) (r : Room d at w) (s : w ≡ u ++ (v ++ x)) where
  module _ (d₁ : List ℕ) (o₁ : ℕ) (p₁ : Put d d₁ at u o₁) where
    room_rest : Room d₁ o₁ (v ++ x)
    room_rest = room_two w u (v ++ x) d at r s d₁ o₁ p₁

    pub room_next : Room d₁ o₁ v
    room_next = room_one (v ++ x) v x d₁ o₁ room_rest refl

    module _ (d₂ : List ℕ) (o₂ : ℕ) (p₂ : Put d₁ d₂ o₁ v o₂) where
      pub room_last : Room d₂ o₂ x
      room_last = room_two (v ++ x) v x d₁ o₁ room_rest refl d₂ o₂ p₂

      pub three_put : (d₃ : List ℕ) (o₃ : ℕ) → Put d₂ d₃ o₂ x o₃ → Put d d₃ at w o₃
      three_put d₃ o₃ p₃ =
          two_put w u (v ++ x) d at r s d₁ o₁ p₁ d₃ o₃ (two_put (v ++ x) v x d₁ o₁ room_rest refl d₂ o₂ p₂ d₃ o₃ p₃)

-- a text w and the octet x behind it
module _ (w d : List ℕ) (x at : ℕ) (r : Room d at (ended w x)) where
  room_behind : at + length w + 1 ≤ length d
  room_behind = omega (arith, ended_long w x, r.fits)

  pub text_room : at + length w ≤ length d
  text_room = omega (arith, room_behind)

  module _ (d₁ : List ℕ) (o : ℕ) (p : Put d d₁ at w o) where
    pub end_fits : length d < 2 ^ 64 → Fits w64 (o + 1)
    end_fits l = record { fits = omega (arith, room_behind, p.place) }

    pub end_room : o < length d₁
    end_room = rw (p.text, put_length d w at text_room) (omega (arith, room_behind, p.place))

    pub end_put : Put d (set d₁ o x) at (ended w x) (o + 1)
    unfolding ended
    end_put =
        record {
          text =
              rw (p.text, p.place)
              (done_at (w ++ (x ∷ [])) d _ at (at + length w + 1) r.fits
              (put _ d (put_at d at w) (at + length w) x [] (puts _ d d at w (x ∷ []) (begin_at (w ++ (x ∷ [])) d at r.fits))));
          place = omega (arith, ended_long w x, p.place);
        }

-- a text that `octets::put` wrote
pub put_there : (w d d₁ : List ℕ) (at : ℕ) → d₁ ≡ put_at d at w → Put d d₁ at w (at + length w)
put_there w d d₁ at q = record { text = q; place = refl }

pub ruleset ending = (text_room, put_there, end_fits, end_room, end_put, rules)

-- a number: it has one digit, or those of its tenth stand before the last
module _ (n at : ℕ) (d : List ℕ) (r : Room d at (decimal n)) where
  module _ (l : n < 10) where
    one_long : at + 1 ≤ length d
    one_long = rw (decimal_one n l) at r.fits

    pub one_room : at < length d
    one_room = omega (arith, one_long)

    pub one_fits : length d < 2 ^ 64 → Fits w64 (at + 1)
    one_fits f = record { fits = omega (arith, one_long) }

    pub one_put : Put d (set d at (48 + n)) at (decimal n) (at + 1)
    one_put =
        rw (decimal_one n l)
        (record {
          text = done_at ((48 + n) ∷ []) d _ at (at + 1) one_long (put _ d d at (48 + n) [] (begin_at ((48 + n) ∷ []) d at one_long));
          place = refl;
        })

  module _ (l : 10 ≤ n) where
    more_room : Room d at (ended (decimal (n / 10)) (48 + n % 10))
    more_room = rw (decimal_more n l) at r

    pub tenth_room : Room d at (decimal (n / 10))
    tenth_room = record { fits = text_room (decimal (n / 10)) d (48 + n % 10) at more_room }

    module _ (d₁ : List ℕ) (o : ℕ) (p : Put d d₁ at (decimal (n / 10)) o) where
      pub last_fits : length d < 2 ^ 64 → Fits w64 (o + 1)
      last_fits f = end_fits (decimal (n / 10)) d (48 + n % 10) at more_room d₁ o p f

      pub last_room : o < length d₁
      last_room = end_room (decimal (n / 10)) d (48 + n % 10) at more_room d₁ o p

      pub last_put : Put d (set d₁ o (48 + n % 10)) at (decimal n) (o + 1)
      last_put = rw (decimal_more n l) (end_put (decimal (n / 10)) d (48 + n % 10) at more_room d₁ o p)

pub ruleset counting = (one_room, one_fits, one_put, tenth_room, last_fits, last_room, last_put, rules)

-- the text w was written where v is asked for, with the octet x behind it
module _ (v w d : List ℕ) (at x : ℕ) (s : v ≡ w) where
  pub same_room : Room d at (ended v x) → Room d at (ended w x)
  same_room r = rw s at r

  pub same_put : (out : List ℕ) (o : ℕ) → Put d out at (ended w x) o → Put d out at (ended v x) o
  same_put out o p = rw s p

module _ (o : Option ℕ) where
  pub time_there : (t : ℕ) → o ≡ Some t → time_text o ≡ decimal t
  unfolding time_text
  time_there t e = rw e

  pub time_absent : o ≡ None → time_text o ≡ ascii "-"
  unfolding time_text
  time_absent e = rw e

module _ (b : Bool) where
  pub is_mutual : b ≡ true → preference_text b ≡ ascii "mutual"
  unfolding preference_text
  is_mutual e = rw e

  pub is_none : b ≡ false → preference_text b ≡ ascii "none"
  unfolding preference_text
  is_none e = rw e

pub ruleset choosing = (same_room, same_put, time_there, time_absent, is_mutual, is_none, rules)
