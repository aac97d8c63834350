-- Laws on lists that the parts of a head or of a slot ask for.
--     take_min, drop_min         a count that is cut off at an area's end
--     drop_take                  what is left of the first m elements
--     drop_zeros                 what is left of a run of zeros
--     part_length                how long a part is
--     follows                    a part and the part behind it are one part
--     drop_past                  what is left behind the first of two lists
--     put_first                  writing at the front
--     put_over                   writing over all of it
--     put_front, put_behind      writing over the first of two lists, or over the second
--     put_more, put_three        writing on behind what was just written
--     put_within                 writing within the first elements
--     put_length                 writing keeps the length
--     part_before, part_behind   what was not written over
--     part_back                  a part that was lent on, back in its place
--     put_again                  writing twice at one place
--     put_back                   writing a part over itself
-- Assumes nothing.
use Prim.Native.Nat.{ℕ, suc, zero, ◌+◌, ◌-◌, ◌<◌, ◌≤◌, min}
use mathlib.Core.Path.{◌≡◌, refl, sym, ap, ◌∙◌}
use mathlib.Core.Logic.{⊎_elim}
use mathlib.Core.List.{List, [], ◌∷◌, ◌++◌, append_assoc, append-nil}
use native.Mathlib.Nat.{min-eq_left, min-eq_right, sub_self, zero-add}
use native.Mathlib.Omega.{arith}
use lib.ListN.{length, take, drop, replicate, length-append, length-take, length-drop, drop_of_length-le, take-append-drop}
use lib.Seq.{take_all, take-take, take-add, drop-drop, take_at, drop_at, take-append-le, drop-append-le, take-append-add, drop-append-add, length-take-le, take-nil}
use Rattle.octets.specs.Written.{put_at}
use Rattle.octets.proofs.Lists.{lt_or_le}

pub take_min : (n room : ℕ) (s : List ℕ) → take (min n room) s ≡ take n (take room s)
take_min n room s =
    ⊎_elim
    (λ (h : n < room). rw (min-eq_left {n = n} {m = room} (omega arith)) (sym (take-take n room s (omega arith))))
    (λ (h : room ≤ n). rw (min-eq_right {n = room} {m = n} h) (sym (take_all n (take room s) (simp length-take (omega arith)))))
    (lt_or_le n room)

pub drop_take : (n m : ℕ) (s : List ℕ) → drop n (take m s) ≡ take (m - n) (drop n s)
drop_take zero m s = let e : m - 0 ≡ m = omega arith in rw e
drop_take (suc n) zero s =
    let e : 0 - suc n ≡ 0 = omega arith in
    rw e
drop_take (suc n) (suc m) [] = rw take-nil
drop_take (suc n) (suc m) (x ∷ s) =
    let e : suc m - suc n ≡ m - n = omega arith in
    rw e (drop_take n m s)

pub drop_min : (n room : ℕ) (s : List ℕ) → take (room - min n room) (drop (min n room) s) ≡ drop n (take room s)
drop_min n room s =
    ⊎_elim
    (λ (h : n < room). rw (min-eq_left {n = n} {m = room} (omega arith)) (sym (drop_take n room s)))
    (λ (h : room ≤ n).
    rw (min-eq_right {n = room} {m = n} h, sub_self room) (sym (drop_of_length-le (take room s) {i = n} (simp length-take (omega arith)))))
    (lt_or_le n room)

pub drop_zeros : (n m : ℕ) → drop {A = ℕ} n (replicate m 0) ≡ replicate (m - n) 0
drop_zeros zero m = let e : m - 0 ≡ m = omega arith in rw e
drop_zeros (suc n) zero = let e : 0 - suc n ≡ 0 = omega arith in rw e
drop_zeros (suc n) (suc m) = let e : suc m - suc n ≡ m - n = omega arith in rw e (drop_zeros n m)

pub part_length : (at n : ℕ) (s : List ℕ) → at + n ≤ length s → length (take n (drop at s)) ≡ n
part_length at n s h = simp (length-take, length-drop) (omega arith)

pub follows : (at n m : ℕ) (s : List ℕ) → take (n + m) (drop at s) ≡ take n (drop at s) ++ take m (drop (at + n) s)
follows at n m s = take-add n m (drop at s) ∙ rw drop-drop

pub drop_past : (x y : List ℕ) (n at : ℕ) → length x ≡ n → drop (n + at) (x ++ y) ≡ drop at y
drop_past x y n at e = rw (← e) (drop-append-add x y at)

pub put_first : (d w : List ℕ) → put_at d 0 w ≡ w ++ drop (length w) d
unfolding put_at
put_first d w = rw zero-add

pub put_front : (x y w : List ℕ) → length x ≡ length w → put_at (x ++ y) 0 w ≡ w ++ y
unfolding put_at
put_front x y w e = rw (zero-add, ← e) (ap (λ (l : List ℕ). w ++ l) (drop_at x y (length x) refl))

pub put_over : (x w : List ℕ) → length x ≡ length w → put_at x 0 w ≡ w
put_over x w e = put_first x w ∙ rw (drop_of_length-le x {i = length w} (omega arith)) (append-nil w)

pub put_behind : (x y w : List ℕ) (n at : ℕ) → length x ≡ n → put_at (x ++ y) (n + at) w ≡ x ++ put_at y at w
unfolding put_at
put_behind x y w n at e =
    let a : length x + at + length w ≡ length x + (at + length w) = omega arith in
    rw (← e, take-append-add x y at, a, drop-append-add x y (at + length w)) (append_assoc x (take at y) (w ++ drop (at + length w) y))

pub put_length : (d w : List ℕ) (at : ℕ) → at + length w ≤ length d → length (put_at d at w) ≡ length d
unfolding put_at
put_length d w at h = simp (length-append, length-drop, length-take-le at d (omega arith)) (omega arith)

pub put_more : (d x y : List ℕ) (at n : ℕ) → length x ≡ n → at + n ≤ length d → put_at (put_at d at x) (at + n) y ≡ put_at d at (x ++ y)
unfolding put_at
put_more d x y at n e h =
    let t : length (take at d) ≡ at = length-take-le at d (omega arith) in
    let front : length (take at d ++ x) ≡ at + n = simp length-append (omega arith) in
    let whole : take at d ++ (x ++ drop (at + length x) d) ≡ (take at d ++ x) ++ drop (at + length x) d =
    sym (append_assoc (take at d) x (drop (at + length x) d)) in
    let ahead : take (at + n) (take at d ++ (x ++ drop (at + length x) d)) ≡ take at d ++ x =
    rw whole (take_at (take at d ++ x) (drop (at + length x) d) (at + n) front) in
    let rest : drop (at + n + length y) (take at d ++ (x ++ drop (at + length x) d)) ≡ drop (at + length (x ++ y)) d =
    let a : at + length x + length y ≡ at + length (x ++ y) = simp length-append (omega arith) in
    rw (whole, ← front, drop-append-add (take at d ++ x) (drop (at + length x) d) (length y), drop-drop, a) in
    rw (ahead, rest) (append_assoc (take at d) x (y ++ drop (at + length (x ++ y)) d) ∙ ap (λ (l : List ℕ). take at d ++ l) (sym (append_assoc x y (drop (at + length (x ++ y)) d))))

pub put_within : (d x : List ℕ) (m at : ℕ) → at + length x ≤ m → put_at (take m d) at x ++ drop m d ≡ put_at d at x
unfolding put_at
put_within d x m at h =
    let j : ℕ = at + length x in
    let k : j + (m - j) ≡ m = omega arith in
    let rest : drop j (take m d) ++ drop m d ≡ drop j d =
    rw (drop_take j m d)
    (ap (λ (t : List ℕ). take (m - j) (drop j d) ++ t) (sym (drop-drop (m - j) j d ∙ ap (λ (q : ℕ). drop q d) k))
    ∙ take-append-drop (m - j) (drop j d)) in
    rw (take-take at m d (omega arith))
    (append_assoc (take at d) (x ++ drop j (take m d)) (drop m d)
    ∙ ap (λ (t : List ℕ). take at d ++ t) (append_assoc x (drop j (take m d)) (drop m d) ∙ ap (λ (t : List ℕ). x ++ t) rest))

pub part_back : (d w : List ℕ) (a k : ℕ) → length w ≡ k → take a d ++ (w ++ drop k (drop a d)) ≡ put_at d a w
unfolding put_at
part_back d w a k e = rw (drop-drop, e)

-- three lists, written one behind the other
pub put_three : (d x y z : List ℕ) (at n m : ℕ) → length x ≡ n → length y ≡ m → at + n + m ≤ length d
    → put_at (put_at (put_at d at x) (at + n) y) (at + n + m) z ≡ put_at d at (x ++ (y ++ z))
put_three d x y z at n m ex ey h =
    let k : length (put_at d at x) ≡ length d = put_length d x at (omega arith) in
    put_more (put_at d at x) y z (at + n) m ey (omega arith) ∙ put_more d x (y ++ z) at n ex (omega arith)

-- a part that lies before what was written, or behind it, is as it was
pub part_before : (d w : List ℕ) (at p n : ℕ) → p + n ≤ at → at ≤ length d → take n (drop p (put_at d at w)) ≡ take n (drop p d)
unfolding put_at
part_before d w at p n h l =
    let k : length (take at d) ≡ at = length-take-le at d l in
    rw (drop-append-le p (take at d) (w ++ drop (at + length w) d) (omega arith), drop_take p at d)
    (take-append-le n (take (at - p) (drop p d)) (w ++ drop (at + length w) d) (simp (length-take, length-drop) (omega arith))
    ∙ take-take n (at - p) (drop p d) (omega arith))

pub part_behind : (d w : List ℕ) (at p n : ℕ) → at + length w ≤ p → at ≤ length d → take n (drop p (put_at d at w)) ≡ take n (drop p d)
unfolding put_at
part_behind d w at p n h l =
    let k : length (take at d) ≡ at = length-take-le at d l in
    let a : p ≡ length (take at d) + (length w + (p - at - length w)) = omega arith in
    let b : at + length w + (p - at - length w) ≡ p = omega arith in
    ap (take n)
    (ap (λ (q : ℕ). drop q (take at d ++ (w ++ drop (at + length w) d))) a
    ∙ drop-append-add (take at d) (w ++ drop (at + length w) d) (length w + (p - at - length w))
    ∙ drop-append-add w (drop (at + length w) d) (p - at - length w)
    ∙ drop-drop (p - at - length w) (at + length w) d
    ∙ ap (λ (q : ℕ). drop q d) b)

pub put_again : (d x y : List ℕ) (at : ℕ) → length x ≡ length y → at + length x ≤ length d → put_at (put_at d at x) at y ≡ put_at d at y
unfolding put_at
put_again d x y at e h =
    let k : length (take at d) ≡ at = length-take-le at d (omega arith) in
    rw (
      take_at (take at d) (x ++ drop (at + length x) d) at k,
      drop_past (take at d) (x ++ drop (at + length x) d) at (length y) k,
      drop_at x (drop (at + length x) d) (length y) e,
      e,
    )

pub put_back : (d : List ℕ) (at n : ℕ) → at + n ≤ length d → put_at d at (take n (drop at d)) ≡ d
unfolding put_at
put_back d at n h =
    let k : length (take n (drop at d)) ≡ n = simp (length-take, length-drop) (omega arith) in
    rw (k, ← drop-drop n at d, take-append-drop n (drop at d)) (take-append-drop at d)
