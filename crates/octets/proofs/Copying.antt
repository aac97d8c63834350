-- A loop that writes a list w over a buffer d from the place `at` on, an octet a turn.
--     Copied w d out at i       i of its octets are there
--     copy_begin .. copy_end    the loop's steps
--     small_begin .. small_end  the steps for the lower case of a list
--     digit_begin .. digits_put, numbering    the steps for the octets of a number, in the part that they go into
-- Assumes nothing.
use Prim.Native.Nat.{ℕ, suc, zero, ◌+◌, ◌-◌, ◌<◌, ◌≤◌, ◌/◌, ◌%◌}
use mathlib.Core.Path.{◌≡◌, refl, sym, ap, ◌∙◌}
use mathlib.Core.List.{List, [], ◌∷◌, ◌++◌, append-nil}
use borrow.Rule.Slice.PartMut.{put_mid}
use native.Mathlib.Nat.{add-zero, add_assoc, sub-zero}
use native.Mathlib.Omega.{arith}
use borrow.Author.Rules.{rules}
use lib.ListN.{length, get_or, take, drop, set, length-take, length-drop}
use Rattle.octets.specs.Octets.{lower, lowered}
use Rattle.octets.specs.Numbers.{digits}
use Rattle.octets.specs.Written.{put_at, onto}
use Rattle.octets.proofs.Lists.{drop_one, drop_done, left_one}
use Rattle.octets.proofs.Letters.{length_lowered, get_d_lowered}
use Rattle.octets.proofs.Writing.{Wrote, begin, begin_at, room_at, kept, counted, put, done, done_at, put_part}

pub record Copied (w d out : List ℕ) (at i : ℕ) : Type 0 where
  pub upto : i ≤ length w
  pub fits : at + length w ≤ length d
  pub so_far : Wrote (take at d ++ w) d out (at + i) (drop i w)

pub copy_begin : (w d : List ℕ) (at : ℕ) → at + length w ≤ length d → Copied w d d at 0
copy_begin w d at h = record { upto = omega arith; fits = h; so_far = rw add-zero (begin_at w d at h) }

module _ (w d out : List ℕ) (at i : ℕ) (h : Copied w d out at i) where
  goes_on : i < length w → Wrote (take at d ++ w) d out (at + i) (get_or w i 0 ∷ drop (i + 1) w)
  goes_on l = rw (drop_one w i l) at h.so_far

  pub copy_kept : length out ≡ length d
  copy_kept = kept (take at d ++ w) d out (at + i) (drop i w) h.so_far

  pub copy_room : i < length w → at + i < length out
  copy_room l = room_at (take at d ++ w) d out (at + i) (get_or w i 0) (drop (i + 1) w) (goes_on l)

  pub copy_next : (x : ℕ) → i < length w → x ≡ get_or w i 0 → Copied w d (set out (at + i) x) at (i + 1)
  copy_next x l e =
      record {
        upto = omega arith;
        fits = h.fits;
        so_far = rw (e, ← add_assoc at i 1) (put (take at d ++ w) d out (at + i) (get_or w i 0) (drop (i + 1) w) (goes_on l));
      }

  pub copy_end : length w ≤ i → out ≡ put_at d at w
  copy_end l = done_at w d out at (at + i) h.fits (rw (drop_done w i l) at h.so_far)

pub ruleset copying = (copy_begin, copy_room, copy_next, copy_end, copy_kept, rules)

-- the lower case of s: its length is that of s, and its octets are what a call answered
pub small_begin : (s d : List ℕ) (at : ℕ) → at + length s ≤ length d → Copied (lowered s) d d at 0
small_begin s d at h = copy_begin (lowered s) d at (rw length_lowered h)

module _ (s d out : List ℕ) (at i : ℕ) (h : Copied (lowered s) d out at i) where
  pub small_kept : length out ≡ length d
  small_kept = copy_kept (lowered s) d out at i h

  pub small_room : i < length s → at + i < length out
  small_room l = copy_room (lowered s) d out at i h (rw length_lowered l)

  pub small_next : (x : ℕ) → i < length s → x ≡ lower (get_or s i 0) → Copied (lowered s) d (set out (at + i) x) at (i + 1)
  small_next x l e = copy_next (lowered s) d out at i h x (rw length_lowered l) (e ∙ sym (get_d_lowered s i))

  pub small_end : length s ≤ i → out ≡ put_at d at (lowered s)
  small_end l = copy_end (lowered s) d out at i h (rw length_lowered l)

pub ruleset making_small = (small_begin, small_room, small_next, small_end, small_kept, rules)

-- the octets of a number n, of which `rest` is what is left to be written
pub length_digits : (width n : ℕ) → length (digits width n) ≡ width
unfolding digits
length_digits zero n = refl
length_digits (suc k) n = ap suc (length_digits k (n / 256))

-- a part d of a buffer of which i octets are the number's by now, and n is what is left of it
module _ (w d out : List ℕ) (i width n : ℕ) (h : Wrote w d out i (digits (width - i) n)) where
  pub digit_next : length d ≡ width → i < length out → Wrote w d (set out i (n % 256)) (i + 1) (digits (width - (i + 1)) (n / 256))
  unfolding digits
  digit_next e l =
      let m : i < width = omega (arith, kept w d out i (digits (width - i) n) h) in
      put w d out i (n % 256) (digits (width - (i + 1)) (n / 256)) (rw (left_one width i m) at h)

  pub digit_end : length d ≡ width → length d ≤ i → out ≡ w
  unfolding digits onto
  digit_end e l =
      let z : width - i ≡ 0 = omega arith in
      let f : Wrote w d out i [] = rw z at h in
      done w d out i f ∙ rw (drop_done d (length w) (omega (arith, counted w d out i [] f))) (append-nil w)

pub digit_begin : (width n : ℕ) (d : List ℕ) → length d ≡ width → Wrote (digits width n) d d 0 (digits (width - 0) n)
digit_begin width n d e = rw sub-zero (begin (digits width n) d (omega (arith, length_digits width n)))

-- all of it is written
module _ (all d out : List ℕ) (at k i width n rest : ℕ) (h : Wrote (digits width n) d out i (digits (width - i) rest)) where
  pub digits_put : length d ≡ width → length d ≤ i → k ≡ width → put_mid at k all out ≡ put_at all at (digits width n)
  digits_put e l f =
      put_part all at k out (digits width n) (digit_end (digits width n) d out i width rest h e l) (f ∙ sym (length_digits width n))

-- how long that part is, as code has it
pub part_long : (d : List ℕ) (at n : ℕ) → at + n ≤ length d → length (take (at + n - at) (drop at d)) ≡ n
part_long d at n h = simp (length-take, length-drop) (omega arith)

pub ruleset numbering = (digit_begin, digit_next, digits_put, part_long, rules)
