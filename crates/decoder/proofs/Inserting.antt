-- A code point that is put in between others, and which numbers are code points.
--     inserting         those behind it are moved on
--     take_inserted     the first code points behind that
--     scalar_over       no number from 0x110000 on is one
-- Assumes nothing.
use Prim.Native.Nat.{ℕ, ◌+◌, ◌-◌, ◌<◌, ◌≤◌}
use mathlib.Core.Path.{◌≡◌, sym, ◌∙◌}
use mathlib.Core.Bool.{false}
use mathlib.Core.List.{List, ◌∷◌, ◌++◌, append_assoc}
use native.Mathlib.Omega.{arith}
use borrow.Author.Tests.{le-ltb, le-leb}
use lib.ListN.{length, take, drop, set, length-drop, length-append}
use Rattle.std.proofs.lemmas.List.{drop-take}
use lib.Seq.{length-take-le, take_at, take-take, set-append_left, take-set-lt, drop-set-lt}
use Rattle.std.specs.List.{copy_within}
use Rattle.octets.specs.Written.{put_at}
use Rattle.octets.proofs.Putting.{put_then}
use Rattle.utf8.specs.Utf8.{scalar}
use Rattle.punycode.specs.Punycode.{inserted}

-- `insert`
-- the w of d from `at` to `len` come one place further on, and x before them
shifted : (d : List ℕ) (len at x : ℕ) (w : List ℕ) → at ≤ len → len < length d → take (len - at) (drop at d) ≡ w → length w ≡ len - at
    → set (copy_within d at len (at + 1)) at x ≡ put_at d at (x ∷ w)
unfolding put_at
shifted d len at x w h l t m =
    let k : length (take (at + 1) d) ≡ at + 1 = length-take-le (at + 1) d (omega arith) in
    let n : at + 1 + (len - at) ≡ at + 1 + length w = omega (arith, m) in
    rw (t, n)
    (set-append_left (take (at + 1) d ++ w) _ at x (simp length-append (omega (arith, k)))
    ∙ rw (set-append_left (take (at + 1) d) w at x (omega (arith, k)), append_assoc, ← take-set-lt (at + 1) d at x (omega arith))
    (rw (← drop-set-lt (at + 1 + length w) d at x (omega arith)) (put_then d at x w (omega (arith, m)))))

pub inserting : (d : List ℕ) (len at x : ℕ) → at ≤ len → len < length d → set (copy_within d at len (at + 1)) at x ≡ put_at d at (x ∷ drop at (take len d))
inserting d len at x h l =
    let e : at + (len - at) ≡ len = omega arith in
    shifted d len at x (drop at (take len d)) h l (sym (drop-take at (len - at) d) ∙ rw e) (length-drop at (take len d) ∙ rw (length-take-le len d (omega arith)))

-- the first code points after an insertion
pub take_inserted : (d : List ℕ) (len at x : ℕ) → at ≤ len → len < length d → take (len + 1) (put_at d at (x ∷ drop at (take len d))) ≡ inserted x at (take len d)
unfolding put_at inserted
take_inserted d len at x h l =
    let a : length (take len d) ≡ len = length-take-le len d (omega arith) in
    let b : length (take at d) ≡ at = length-take-le at d (omega arith) in
    let c : length (take at d ++ (x ∷ drop at (take len d))) ≡ len + 1 = simp (length-append, length-drop) (omega (arith, a, b)) in
    rw (← append_assoc (take at d) (x ∷ drop at (take len d)) (drop (at + length (x ∷ drop at (take len d))) d), take-take at len d h)
    (take_at (take at d ++ (x ∷ drop at (take len d))) _ (len + 1) c)

-- and nothing beyond them is one
pub scalar_over : (n : ℕ) → 0x110000 ≤ n → scalar n ≡ false
unfolding scalar
scalar_over n h = rw (le-ltb n 0xD800 (omega arith), le-leb 0xE000 n (omega arith), le-ltb n 0x110000 h)
