-- A buffer that is written from front to back.
--     Wrote w d out o rest    d is the buffer as it came and out as it is now, w what is to stand at its beginning, of which o elements are there and rest is not
--     begin, begin_at         nothing is written yet; the first `at` elements stay as they came
--     room_at                 there is room for what comes next
--     put, puts               one element more; several
--     done, done_at           all is written
--     put_part                a part that was written as a whole
-- Assumes nothing.
use Prim.Native.Nat.{ℕ, ◌+◌, ◌<◌, ◌≤◌}
use mathlib.Core.Path.{◌≡◌, refl, sym, ap, ◌∙◌}
use mathlib.Core.List.{List, [], ◌∷◌, ◌++◌, append_assoc}
use native.Mathlib.Numerals.{add-one}
use native.Mathlib.Omega.{arith}
use lib.ListN.{length, take, drop, set, length-append, length-take, length-drop, take-append-drop}
use lib.Seq.{take_at, drop_at, drop-drop, set_split, length-take-le, take-length, take-add}
use borrow.Rule.Slice.PartMut.{put_mid}
use Rattle.octets.specs.Written.{put_at, onto}

pub record Wrote (w d out : List ℕ) (o : ℕ) (rest : List ℕ) : Type 0 where
  pub text : out ≡ take o w ++ drop o d
  pub left : drop o w ≡ rest
  pub upto : o ≤ length w
  pub room : length w ≤ length d

pub begin : (w d : List ℕ) → length w ≤ length d → Wrote w d d 0 w
begin w d h = record { text = refl; left = refl; upto = omega arith; room = h }

pub begin_at : (w d : List ℕ) (at : ℕ) → at + length w ≤ length d → Wrote (take at d ++ w) d d at w
begin_at w d at h =
    let k : length (take at d) ≡ at = length-take-le at d (omega arith) in
    record {
      text = rw (take_at (take at d) w at k) (sym (take-append-drop at d));
      left = drop_at (take at d) w at k;
      upto = simp length-append (omega (arith, k));
      room = simp length-append (omega (arith, k));
    }

module _ (w d out : List ℕ) (o : ℕ) where
  pub kept : (rest : List ℕ) → Wrote w d out o rest → length out ≡ length d
  kept rest h = ap length h.text ∙ simp (length-append, length-take, length-drop) (omega (arith, h.upto, h.room))

  pub counted : (rest : List ℕ) → Wrote w d out o rest → o + length rest ≡ length w
  counted rest h = omega (arith, length-drop o w, ap length h.left)

  pub room_at : (x : ℕ) (rest : List ℕ) → Wrote w d out o (x ∷ rest) → o < length out
  room_at x rest h = omega (arith, counted (x ∷ rest) h, kept (x ∷ rest) h)

  -- the part that is done, and what the buffer holds from there on
  done_part : (rest : List ℕ) → Wrote w d out o rest → take o out ≡ take o w
  done_part rest h = rw h.text (take_at (take o w) (drop o d) o (length-take-le o w h.upto))

  behind : (rest : List ℕ) (n : ℕ) → Wrote w d out o rest → drop (o + n) out ≡ drop (o + n) d
  behind rest n h =
      rw (← drop-drop n o out, ← drop-drop n o d, h.text) (ap (drop n) (drop_at (take o w) (drop o d) o (length-take-le o w h.upto)))

  pub puts : (vs rest : List ℕ) → Wrote w d out o (vs ++ rest) → Wrote w d (put_at out o vs) (o + length vs) rest
  unfolding put_at
  puts vs rest h =
      let n : o + (length vs + length rest) ≡ length w = simp length-append at (counted (vs ++ rest) h) in
      let t : take (o + length vs) w ≡ take o w ++ vs =
      take-add o (length vs) w ∙ rw h.left (ap (λ (l : List ℕ). take o w ++ l) (take_at vs rest (length vs) refl)) in
      record {
        text = rw (done_part (vs ++ rest) h, behind (vs ++ rest) (length vs) h, t) (sym (append_assoc (take o w) vs (drop (o + length vs) d)));
        left = rw (← drop-drop (length vs) o w, h.left) (drop_at vs rest (length vs) refl);
        upto = omega arith;
        room = h.room;
      }

  pub put : (x : ℕ) (rest : List ℕ) → Wrote w d out o (x ∷ rest) → Wrote w d (set out o x) (o + 1) rest
  unfolding put_at
  put x rest h =
      let e : set out o x ≡ put_at out o (x ∷ []) = rw add-one (set_split out o x (room_at x rest h)) in
      rw e (puts (x ∷ []) rest h)

  pub done : Wrote w d out o [] → out ≡ onto w d
  unfolding onto
  done h =
      let n : o ≡ length w = omega (arith, counted [] h) in
      h.text ∙ rw (n, take-length)

pub done_at : (w d out : List ℕ) (at o : ℕ) → at + length w ≤ length d → Wrote (take at d ++ w) d out o [] → out ≡ put_at d at w
unfolding put_at onto
done_at w d out at o h p =
    let n : length (take at d ++ w) ≡ at + length w = simp length-append (omega (arith, length-take-le at d (omega arith))) in
    done (take at d ++ w) d out o p ∙ rw (n, append_assoc)

-- a part that was written as a whole, as code has it
pub put_part : (d : List ℕ) (at k : ℕ) (part w : List ℕ) → part ≡ w → k ≡ length w → put_mid at k d part ≡ put_at d at w
unfolding put_at
put_part d at k part w e f = rw (e, f, drop-drop (length w) at d)
