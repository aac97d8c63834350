-- Several octets written one after the other, as code has the places.
--     put_two .. put_four        a buffer that is written from front to back, some octets further
--     has_room                   there is room for what is still to be written
--     over_none .. over_four     octets written over those from a place on
--     put_long                   how long a list is after it
--     put_then, put_both         an octet or a list, and then a list behind it
--     the ruleset                storing, for code that stores three or four octets
-- Assumes nothing.
use Prim.Native.Nat.{ℕ, ◌+◌, ◌<◌, ◌≤◌}
use mathlib.Core.Path.{◌≡◌, sym}
use mathlib.Core.List.{List, [], ◌∷◌, ◌++◌, append-nil}
use native.Mathlib.Nat.{add-zero}
use native.Mathlib.Omega.{arith}
use borrow.Author.Rules.{rules}
use lib.ListN.{length, take, set, take-append-drop, length-append, length-take, length-drop}
use Rattle.octets.specs.Written.{put_at}
use Rattle.octets.proofs.Writing.{Wrote, begin_at, kept, counted, put, puts, done_at}

module _ (w d out : List ℕ) (o x y : ℕ) where
  pub put_two : (rest : List ℕ) → Wrote w d out o (x ∷ y ∷ rest) → Wrote w d (set (set out o x) (o + 1) y) (o + 2) rest
  put_two rest h =
      let e : o + 1 + 1 ≡ o + 2 = omega arith in
      rw e at (put w d (set out o x) (o + 1) y rest (put w d out o x (y ∷ rest) h))

  module _ (z : ℕ) where
    pub put_three : (rest : List ℕ) → Wrote w d out o (x ∷ y ∷ z ∷ rest)
        → Wrote w d (set (set (set out o x) (o + 1) y) (o + 2) z) (o + 3) rest
    put_three rest h =
        let e : o + 2 + 1 ≡ o + 3 = omega arith in
        rw e at (put w d (set (set out o x) (o + 1) y) (o + 2) z rest (put_two (z ∷ rest) h))

    pub put_four : (v : ℕ) (rest : List ℕ) → Wrote w d out o (x ∷ y ∷ z ∷ v ∷ rest)
        → Wrote w d (set (set (set (set out o x) (o + 1) y) (o + 2) z) (o + 3) v) (o + 4) rest
    put_four v rest h =
        let e : o + 3 + 1 ≡ o + 4 = omega arith in
        rw e at (put w d (set (set (set out o x) (o + 1) y) (o + 2) z) (o + 3) v rest (put_three (v ∷ rest) h))

pub has_room : (w d out : List ℕ) (o : ℕ) (rest : List ℕ) → Wrote w d out o rest → o + length rest ≤ length out
has_room w d out o rest h = omega (arith, kept w d out o rest h, counted w d out o rest h, h.room)

module _ (d : List ℕ) (at : ℕ) where
  pub over_none : d ≡ put_at d at []
  unfolding put_at
  over_none = rw add-zero (sym (take-append-drop at d))

  pub put_long : (w : List ℕ) → at + length w ≤ length d → length (put_at d at w) ≡ length d
  unfolding put_at
  put_long w h = simp (length-append, length-take, length-drop) (omega arith)

  pub put_then : (x : ℕ) (w : List ℕ) → at + length (x ∷ w) ≤ length d → put_at (set d at x) (at + 1) w ≡ put_at d at (x ∷ w)
  put_then x w h =
      done_at (x ∷ w) d _ at (at + 1 + length w) h
      (puts _ d (set d at x) (at + 1) w [] (rw append-nil (put _ d d at x w (begin_at (x ∷ w) d at h))))

  module _ (u v : List ℕ) (h : at + length (u ++ v) ≤ length d) where
    half_put : Wrote (take at d ++ (u ++ v)) d (put_at d at u) (at + length u) v
    half_put = puts _ d d at u v (begin_at (u ++ v) d at h)

    pub put_both : put_at (put_at d at u) (at + length u) v ≡ put_at d at (u ++ v)
    put_both = done_at (u ++ v) d _ at (at + length u + length v) h (puts _ d (put_at d at u) (at + length u) v [] (rw append-nil half_put))

    pub room_second : at + length u + length v ≤ length (put_at d at u)
    room_second = has_room _ d (put_at d at u) (at + length u) v half_put

  pub over_one : (x : ℕ) → at + 1 ≤ length d → set d at x ≡ put_at d at (x ∷ [])
  over_one x h = done_at (x ∷ []) d _ at (at + 1) h (put _ d d at x [] (begin_at (x ∷ []) d at h))

  pub over_two : (x y : ℕ) → at + 2 ≤ length d → set (set d at x) (at + 1) y ≡ put_at d at (x ∷ y ∷ [])
  over_two x y h = done_at (x ∷ y ∷ []) d _ at (at + 2) h (put_two _ d d at x y [] (begin_at (x ∷ y ∷ []) d at h))

  module _ (x y z : ℕ) where
    pub over_three : at + 3 ≤ length d → set (set (set d at x) (at + 1) y) (at + 2) z ≡ put_at d at (x ∷ y ∷ z ∷ [])
    over_three h =
        done_at (x ∷ y ∷ z ∷ []) d _ at (at + 3) h
        (put_three _ d d at x y z [] (begin_at (x ∷ y ∷ z ∷ []) d at h))

    pub over_four : (v : ℕ) → at + 4 ≤ length d
        → set (set (set (set d at x) (at + 1) y) (at + 2) z) (at + 3) v ≡ put_at d at (x ∷ y ∷ z ∷ v ∷ [])
    over_four v h =
        done_at (x ∷ y ∷ z ∷ v ∷ []) d _ at (at + 4) h
        (put_four _ d d at x y z v [] (begin_at (x ∷ y ∷ z ∷ v ∷ []) d at h))

-- each of n places has room where all have
pub room_in : (d : List ℕ) (at n j : ℕ) → at + n ≤ length d → j < n → at + j < length d
room_in d at n j h l = omega arith

pub ruleset storing = (room_in, over_three, over_four, rules)
