-- What the loops know that go through a text.
--     ascii_is                        what the library says of a text in ASCII
--     bits_begin .. bits_end          the steps of a loop that puts octets together
--     small_begin .. small_end        the steps of a loop that writes lower case
--     put_text, put_broken            what is written where the text is well formed, and where not
--     the rulesets                    gathering, making_ascii, writing_small and putting_text
-- Assumes nothing.
use Prim.Native.Nat.{ℕ, suc, zero, ◌+◌, ◌<◌, ◌≤◌}
use mathlib.Core.Path.{◌≡◌, refl, sym, ap, ◌∙◌}
use mathlib.Core.Bool.{Bool, true, false, ◌&&◌, and-false}
use Rattle.std.specs.Bool.{MatchBool}
use Rattle.std.specs.Str.{IsAscii, IsNotAscii}
use mathlib.Core.List.{List, [], ◌∷◌}
use native.Mathlib.Omega.{arith}
use native.Mathlib.Numerals.{add-one}
use borrow.Author.Rules.{rules}
use lib.Dec.{ltb}
use lib.Bits.{bit_or, or_lt, or_add_and, and_le_l, and_le_r}
use borrow.Author.Tests.{ltb-true, ltb-false, lt-ltb, le-ltb}
use lib.ListN.{length, get_or, set}
use Rattle.octets.specs.Octets.{lowered}
use Rattle.octets.specs.Tests.{every}
use Rattle.octets.specs.Written.{put_at}
use Rattle.octets.proofs.Every.{Passed, passed_begin, passed_next, passed_end}
use Rattle.octets.proofs.Tests.{by_test}
use Rattle.octets.proofs.Copying.{Copied, copy_begin, copy_kept, copy_room, copy_next, copy_end, making_small}
use Rattle.utf8.specs.Utf8.{well_formed}
use Rattle.utf8.specs.Lowering.{lower_text}
use Rattle.utf8.specs.Steps.{all_ascii, lower_at, octetwise, small_at}
use Rattle.utf8.proofs.Alike.{alike_octetwise, alike_length}
use Rattle.utf8.proofs.Lowering.{text_formed, text_broken}

-- octets put together bit by bit are below 128 just where each of them is
bits_below : (a b : ℕ) → ltb (bit_or a b) 128 ≡ (ltb a 128 && ltb b 128)
bits_below a b =
    by_test (ltb a 128)
    (λ p.
    by_test (ltb b 128)
    (λ q. lt-ltb (bit_or a b) 128 (or_lt 7 a b (ltb-true a 128 p) (ltb-true b 128 q)) ∙ rw (p, q))
    (λ q. le-ltb (bit_or a b) 128 (omega (arith, or_add_and a b, and_le_l a b, ltb-false b 128 q)) ∙ rw (p, q)))
    (λ p. le-ltb (bit_or a b) 128 (omega (arith, or_add_and a b, and_le_r a b, ltb-false a 128 p)) ∙ rw p)

module _ (s : List ℕ) (bits i : ℕ) (h : Passed (λ x. ltb x 128) s (ltb bits 128) i) where
  pub bits_next : i < length s → Passed (λ x. ltb x 128) s (ltb (bit_or bits (get_or s i 0)) 128) (i + 1)
  bits_next l = rw bits_below (passed_next (λ x. ltb x 128) s (ltb bits 128) i h (ltb (get_or s i 0) 128) l refl)

  pub bits_end : length s ≤ i → ltb bits 128 ≡ all_ascii s
  bits_end l = passed_end (λ x. ltb x 128) s (ltb bits 128) i h l

pub bits_begin : (s : List ℕ) → Passed (λ x. ltb x 128) s (ltb 0 128) 0
bits_begin s = passed_begin (λ x. ltb x 128) s

pub ruleset gathering = (bits_begin, bits_next, bits_end, rules)

-- by what the library says of a text in ASCII
all_below : (s : List ℕ) → IsAscii s → all_ascii s ≡ true
unfolding every
all_below [] h = refl
all_below (x ∷ s) h = rw (lt-ltb x 128 (h 0)) (all_below s (λ i. h (suc i)))

one_above : (s : List ℕ) (i : ℕ) → 128 ≤ get_or s i 0 → all_ascii s ≡ false
unfolding every
one_above [] i h = absurd (omega arith)
one_above (x ∷ s) zero h = rw (le-ltb x 128 h)
one_above (x ∷ s) (suc i) h = rw (one_above s i h) (and-false (ltb x 128))

pub ascii_is : (s : List ℕ) (r : Bool) → MatchBool r (IsAscii s) (IsNotAscii s) → r ≡ all_ascii s
ascii_is s true h = sym (all_below s h)
ascii_is s false h = sym (one_above s h.0 h.1)

-- writing lower case and testing for ASCII at once
pub ruleset making_ascii = (gathering, making_small)

length_octetwise : (a : ℕ) (s : List ℕ) → length (octetwise a s) ≡ length s
length_octetwise a s = alike_length (alike_octetwise a s)

get_d_octetwise : (a : ℕ) (s : List ℕ) (i : ℕ) → i < length s → get_or (octetwise a s) i 0 ≡ lower_at (get_or (a ∷ s) i 0) (get_or s i 0) (get_or s (suc i) 0)
unfolding octetwise
get_d_octetwise a [] i l = absurd (omega arith)
get_d_octetwise a (x ∷ s) zero l = refl
get_d_octetwise a (x ∷ s) (suc i) l = get_d_octetwise x s i (omega arith)

pub small_begin : (s d : List ℕ) (at : ℕ) → at + length s ≤ length d → Copied (octetwise 0 s) d d at 0
small_begin s d at h = copy_begin (octetwise 0 s) d at (rw length_octetwise h)

module _ (s d out : List ℕ) (at i : ℕ) (h : Copied (octetwise 0 s) d out at i) where
  pub small_kept : length out ≡ length d
  small_kept = copy_kept (octetwise 0 s) d out at i h

  pub small_room : i < length s → at + i < length out
  small_room l = copy_room (octetwise 0 s) d out at i h (rw length_octetwise l)

  pub small_next : (x : ℕ) → i < length s → x ≡ small_at s i → Copied (octetwise 0 s) d (set out (at + i) x) at (i + 1)
  unfolding small_at
  small_next x l e =
      copy_next (octetwise 0 s) d out at i h x (rw length_octetwise l) (e ∙ rw (add-one i) (sym (get_d_octetwise 0 s i l)))

  pub small_end : length s ≤ i → out ≡ put_at d at (octetwise 0 s)
  small_end l = copy_end (octetwise 0 s) d out at i h (rw length_octetwise l)

pub ruleset writing_small = (small_begin, small_kept, small_room, small_next, small_end, rules)

module _ (s d out : List ℕ) (at : ℕ) (b : Bool) (e : b ≡ well_formed s) where
  pub put_text : b ≡ true → out ≡ put_at d at (octetwise 0 s) → out ≡ put_at d at (lower_text s)
  put_text t o = o ∙ ap (put_at d at) (sym (text_formed s (sym e ∙ t)))

  pub put_broken : b ≡ false → out ≡ put_at d at (lowered s) → out ≡ put_at d at (lower_text s)
  put_broken t o = o ∙ ap (put_at d at) (sym (text_broken s (sym e ∙ t)))

pub ruleset putting_text = (put_text, put_broken, rules)
